-- The kinds of faults in words.
use Rattle.std.specs.Prelude.{ℕ, List, codes}
use Rattle.script_lines.specs.declared.kind.ScriptKind.{ScriptKind}
use Rattle.script_lines.specs.declared.kind.ScriptKind.TheVariants as kind

-- the text of a kind of fault
abbrev pub kind_text : ScriptKind → List ℕ
kind_text kind.After = codes "text after end"
kind_text kind.Cut = codes "input ends early"
kind_text kind.Header = codes "no header"
kind_text kind.Word = codes "unexpected word"
kind_text kind.Form = codes "bad form"
kind_text kind.Number = codes "bad number"
kind_text kind.Limit = codes "out of limit"
kind_text (kind.Attrs why) = codes "bad attrs"
kind_text kind.OverCap = codes "max over cap"
kind_text (kind.Range why) = codes "bad range"
kind_text kind.RangesOverMax = codes "ranges over max"
kind_text (kind.Scheme why) = codes "bad scheme"
kind_text kind.Repeated = codes "slot set twice"
kind_text kind.Outside = codes "outside span"
kind_text kind.TooMuch = codes "too much work"
