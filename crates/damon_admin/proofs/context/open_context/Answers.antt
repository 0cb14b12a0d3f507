use Rattle.std.proofs.Common.{[], sym, ap, ◌∙◌, refl}
use Rattle.damon_control.specs.Script.{AtHeader, script_of}
use Rattle.damon_control.specs.ScriptView.{said_by}
use Rattle.damon_admin.proofs.context.open_context.Goals as goal

pub returns-in-Ok : goal.returns-in-Ok
returns-in-Ok c own text count = record {
  script = said_by c.in-Ok.script;
  said = ap script_of (sym text ∙ sym c.deref.ensures.value) ∙ c.in-Ok.ensures.script;
  place = AtHeader;
  so_far = refl;
  stage_is = refl;
  text = [];
  played = c.in_ok-open_waiting-in-Ok.ensures;
}
