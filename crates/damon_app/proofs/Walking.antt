-- Words that clap walks over, none of which begins with a hyphen.
use Rattle.std.proofs.Common.{◌≡◌, List, [], ◌∷◌, ◌++◌, true, false, Some, refl, ap, sym, ◌∙◌, append_assoc, append-nil}
use Rattle.std.specs.Prelude.{◌==◌, fold, is_some}
use Rattle.clap.specs.declared.error.kind.ErrorKind.{ErrorKind}
use Rattle.clap.specs.Faults.{built_fault, check_fault, defaults_fault, entered_fault, fault_of, settle_fault, walk_fault}
use Rattle.clap.specs.Kinds.{Kinds, or_else}
use Rattle.clap.specs.Simple.{App, Shape, built, entered, names_of}
use Rattle.clap.specs.Walk.{Held, Names, Rule, Text, Walk, finished, nothing_held, settled, walk, walk_from, walked}
use Rattle.damon_app.specs.Parser.{damon_app}

-- the first byte is no hyphen
abbrev pub IsPlainWord : Text → Type 0
IsPlainWord [] = Unit {0}
IsPlainWord (c ∷ cs) = (c == 45) ≡ false

abbrev pub ArePlain : List Text → Type 0
ArePlain [] = Unit {0}
ArePlain (word ∷ words) = IsPlainWord word × ArePlain words

pub or_else-nil : (ks : Kinds) → or_else ks [] ≡ ks
or_else-nil [] = refl
or_else-nil (k ∷ ks) = refl

-- ---- a walk that stopped

pub stopped_fault : (s : Shape) (names : Names) (w : Walk) (p : Text × List Text) (words : List Text) → w.stopped ≡ Some p → walk_fault s names w words ≡ []
unfolding walk_fault walked
stopped_fault s names w p [] is = refl
stopped_fault s names w p (word ∷ words) is = rw is (stopped_fault s names (record w { stopped = Some (p.0, p.1 ++ word ∷ []) }) (p.0, p.1 ++ word ∷ []) words refl)

-- what stands after a subcommand that was met
pub stopped_words : (rules : List Rule) (names : Names) (w : Walk) (p : Text × List Text) (words : List Text) → w.stopped ≡ Some p → (fold (walked rules names) w words).stopped ≡ Some (p.0, p.1 ++ words)
unfolding walked
stopped_words rules names w p [] is = is ∙ ap (λ ws. Some (p.0, ws)) (sym (append-nil p.1))
stopped_words rules names w p (word ∷ words) is =
    rw is (stopped_words rules names (record w { stopped = Some (p.0, p.1 ++ word ∷ []) }) (p.0, p.1 ++ word ∷ []) words refl)
    ∙ ap (λ ws. Some (p.0, ws)) (append_assoc p.1 (word ∷ []) words)

-- what is held then stays
pub stopped_held : (rules : List Rule) (names : Names) (w : Walk) (p : Text × List Text) (words : List Text) → w.stopped ≡ Some p → (fold (walked rules names) w words).held ≡ w.held
unfolding walked
stopped_held rules names w p [] is = refl
stopped_held rules names w p (word ∷ words) is =
    rw is (stopped_held rules names (record w { stopped = Some (p.0, p.1 ++ word ∷ []) }) (p.0, p.1 ++ word ∷ []) words refl)

-- ---- a subcommand

-- where the top walk stops at a subcommand, the words fail as the subcommand fails
pub entered_fails : (a : App) (h : Held) (words rest : List Text) (name : Text) (k : ErrorKind) (ks : Kinds) → walk_fault a.top (names_of a) (walk_from h) words ≡ [] → (walk a.top.rules (names_of a) h words).stopped ≡ Some (name, rest) → entered_fault a (Some (name, rest)) ≡ k ∷ ks → built_fault a h words ≡ k ∷ ks
entered_fails a h words rest name k ks passes stops below = rw (passes, stops, below) refl

-- where it passes, so do they
pub entered_passes : (a : App) (h end : Held) (words rest : List Text) (name : Text) → walk_fault a.top (names_of a) (walk_from h) words ≡ []
    → (walk a.top.rules (names_of a) h words).stopped ≡ Some (name, rest) → (walk a.top.rules (names_of a) h words).held ≡ end
    → is_some (entered a (Some (name, rest))) ≡ true
    → or_else (settle_fault a.top.rules a.top.args_override_self end)
    (or_else (defaults_fault (settled a.top.rules end).rows a.top.rules) (check_fault a.top (finished a.top.rules end) true)) ≡ []
    → entered_fault a (Some (name, rest)) ≡ [] → built_fault a h words ≡ []
entered_passes a h end words rest name passes stops held found later below = rw (passes, stops, held, below, found) later

abbrev pub built_app : App
built_app = built damon_app

abbrev pub after : Text → Walk
after word = walked built_app.top.rules (names_of built_app) (walk_from nothing_held) word

pub sub_fails : (name : Text) (ws : List Text) (k : ErrorKind) (ks : Kinds) → walk_fault built_app.top (names_of built_app) (walk_from nothing_held) (name ∷ ws) ≡ walk_fault built_app.top (names_of built_app) (after name) ws → (after name).stopped ≡ Some (name, []) → entered_fault built_app (Some (name, ws)) ≡ k ∷ ks → fault_of damon_app (name ∷ ws) ≡ k ∷ ks
sub_fails name ws k ks walks stops below =
    entered_fails built_app nothing_held (name ∷ ws) ws name k ks
    (walks ∙ stopped_fault built_app.top (names_of built_app) (after name) (name, []) ws stops)
    (stopped_words built_app.top.rules (names_of built_app) (after name) (name, []) ws stops)
    below

pub sub_passes : (name : Text) (ws : List Text) → walk_fault built_app.top (names_of built_app) (walk_from nothing_held) (name ∷ ws) ≡ walk_fault built_app.top (names_of built_app) (after name) ws → (after name).stopped ≡ Some (name, []) → (after name).held ≡ nothing_held
    → is_some (entered built_app (Some (name, ws))) ≡ true → entered_fault built_app (Some (name, ws)) ≡ [] → fault_of damon_app (name ∷ ws) ≡ []
unfolding defaults_fault
sub_passes name ws walks stops held found below =
    entered_passes built_app nothing_held nothing_held (name ∷ ws) ws name
    (walks ∙ stopped_fault built_app.top (names_of built_app) (after name) (name, []) ws stops)
    (stopped_words built_app.top.rules (names_of built_app) (after name) (name, []) ws stops)
    (stopped_held built_app.top.rules (names_of built_app) (after name) (name, []) ws stops ∙ held)
    found refl below
