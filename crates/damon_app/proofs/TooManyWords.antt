-- Words after a subcommand that are too many, none of which begins with a hyphen.
use Rattle.std.proofs.Common.{◌≡◌, List, [], ◌∷◌, codes, refl}
use Rattle.clap.specs.declared.error.kind.ErrorKind.TheVariants as kind
use Rattle.clap.specs.Faults.{fault_of}
use Rattle.clap.specs.Walk.{Text}
use Rattle.clap.proofs.OnLiterals.{clap_on_literals}
use Rattle.damon_app.specs.Parser.{damon_app}
use Rattle.damon_app.proofs.Walking.{IsPlainWord, sub_fails}

-- one word more than the subcommand takes
pub replay_fails : (x : Text) (ws : List Text) → IsPlainWord x → fault_of damon_app (codes "replay" ∷ x ∷ ws) ≡ kind.UnknownArgument ∷ []
unfolding clap_on_literals
replay_fails [] ws dash = sub_fails (codes "replay") ([] ∷ ws) kind.UnknownArgument [] refl refl refl
replay_fails (c ∷ cs) ws dash = sub_fails (codes "replay") ((c ∷ cs) ∷ ws) kind.UnknownArgument [] refl refl (rw (dash, dash) refl)

pub json_fails : (x : Text) (ws : List Text) → IsPlainWord x → fault_of damon_app (codes "json" ∷ x ∷ ws) ≡ kind.UnknownArgument ∷ []
unfolding clap_on_literals
json_fails [] ws dash = sub_fails (codes "json") ([] ∷ ws) kind.UnknownArgument [] refl refl refl
json_fails (c ∷ cs) ws dash = sub_fails (codes "json") ((c ∷ cs) ∷ ws) kind.UnknownArgument [] refl refl (rw (dash, dash) refl)

pub verify_fails : (x : Text) (ws : List Text) → IsPlainWord x → fault_of damon_app (codes "verify" ∷ x ∷ ws) ≡ kind.UnknownArgument ∷ []
unfolding clap_on_literals
verify_fails [] ws dash = sub_fails (codes "verify") ([] ∷ ws) kind.UnknownArgument [] refl refl refl
verify_fails (c ∷ cs) ws dash = sub_fails (codes "verify") ((c ∷ cs) ∷ ws) kind.UnknownArgument [] refl refl (rw (dash, dash) refl)

pub admin_fails : (x : Text) (ws : List Text) → IsPlainWord x → fault_of damon_app (codes "admin" ∷ x ∷ ws) ≡ kind.UnknownArgument ∷ []
unfolding clap_on_literals
admin_fails [] ws dash = sub_fails (codes "admin") ([] ∷ ws) kind.UnknownArgument [] refl refl refl
admin_fails (c ∷ cs) ws dash = sub_fails (codes "admin") ((c ∷ cs) ∷ ws) kind.UnknownArgument [] refl refl (rw (dash, dash) refl)

pub reclaim_fails : (x : Text) (ws : List Text) → IsPlainWord x → fault_of damon_app (codes "reclaim" ∷ x ∷ ws) ≡ kind.UnknownArgument ∷ []
unfolding clap_on_literals
reclaim_fails [] ws dash = sub_fails (codes "reclaim") ([] ∷ ws) kind.UnknownArgument [] refl refl refl
reclaim_fails (c ∷ cs) ws dash = sub_fails (codes "reclaim") ((c ∷ cs) ∷ ws) kind.UnknownArgument [] refl refl (rw (dash, dash) refl)

-- two numbers
pub gen_fails : (x y : Text) (ws : List Text) → IsPlainWord x → IsPlainWord y → fault_of damon_app (codes "gen" ∷ x ∷ y ∷ ws) ≡ kind.UnknownArgument ∷ []
unfolding clap_on_literals
gen_fails [] [] ws p q = sub_fails (codes "gen") ([] ∷ [] ∷ ws) kind.UnknownArgument [] refl refl refl
gen_fails [] (d ∷ ds) ws p q = sub_fails (codes "gen") ([] ∷ (d ∷ ds) ∷ ws) kind.UnknownArgument [] refl refl (rw (q, q) refl)
gen_fails (c ∷ cs) [] ws p q = sub_fails (codes "gen") ((c ∷ cs) ∷ [] ∷ ws) kind.UnknownArgument [] refl refl (rw (p, p) refl)
gen_fails (c ∷ cs) (d ∷ ds) ws p q = sub_fails (codes "gen") ((c ∷ cs) ∷ (d ∷ ds) ∷ ws) kind.UnknownArgument [] refl refl (rw (p, p, q, q) refl)

pub heat_fails : (x y : Text) (ws : List Text) → IsPlainWord x → IsPlainWord y → fault_of damon_app (codes "heat" ∷ x ∷ y ∷ ws) ≡ kind.UnknownArgument ∷ []
unfolding clap_on_literals
heat_fails [] [] ws p q = sub_fails (codes "heat") ([] ∷ [] ∷ ws) kind.UnknownArgument [] refl refl refl
heat_fails [] (d ∷ ds) ws p q = sub_fails (codes "heat") ([] ∷ (d ∷ ds) ∷ ws) kind.UnknownArgument [] refl refl (rw (q, q) refl)
heat_fails (c ∷ cs) [] ws p q = sub_fails (codes "heat") ((c ∷ cs) ∷ [] ∷ ws) kind.UnknownArgument [] refl refl (rw (p, p) refl)
heat_fails (c ∷ cs) (d ∷ ds) ws p q = sub_fails (codes "heat") ((c ∷ cs) ∷ (d ∷ ds) ∷ ws) kind.UnknownArgument [] refl refl (rw (p, p, q, q) refl)
