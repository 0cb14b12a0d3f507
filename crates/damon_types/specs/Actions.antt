-- The names of actions.
use Rattle.std.specs.Prelude.{ℕ, List, codes}
use Rattle.damon_types.specs.declared.scheme.Action.{Action}
use Rattle.damon_types.specs.declared.scheme.Action.TheVariants.{Stat, Willneed, Cold, Pageout, Hugepage, Nohugepage, LruPrio, LruDeprio}

-- the name of an action, in scripts and reports
abbrev pub action_name : Action → List ℕ
action_name Stat = codes "stat"
action_name Willneed = codes "willneed"
action_name Cold = codes "cold"
action_name Pageout = codes "pageout"
action_name Hugepage = codes "hugepage"
action_name Nohugepage = codes "nohugepage"
action_name LruPrio = codes "lru_prio"
action_name LruDeprio = codes "lru_deprio"
