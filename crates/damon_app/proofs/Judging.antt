-- What the answer says of two requests: of a plain report, and of a journal whose text is refused.
use Rattle.std.proofs.Common.{◌≡◌, ◌∙◌, ℕ, List, Option, Some, None, Err, ap, sym, subst}
use Rattle.std.specs.Prelude.{IfSome, String}
use Rattle.std.specs.declared.alloc.Global.{Global}
use Rattle.std.specs.Io.KnownBytes.{Appends}
use Rattle.snapshot_print.specs.declared.form.Form.TheVariants.{Text}
use Rattle.script_run.specs.TextReport.{ReportsAreText, text_report}
use Rattle.journal_text.specs.Reading.{read_journal}
use Rattle.run_status.specs.Status.{IsRead}
use Rattle.journal_check.specs.Verified.{IsOfNoLawfulRun}
use Rattle.run_status.specs.declared.status.Status.{Status}
use Rattle.run_status.specs.declared.status.Status.TheVariants.{Unlawful}
use Rattle.damon_app.specs.declared.request.Request.{Request}
use Rattle.damon_app.specs.declared.request.Request.TheVariants.{Report, Verify, Heat, Admin, Generate}
use Rattle.damon_app.specs.declared.request.Run.TheVariants.{Plain}
use Rattle.damon_app.specs.Replay.{MayCome, Reports, TellsFault, Wrote}
use Rattle.damon_app.specs.Request.{AskToReplay, ReadsInput, asked, request_of}

-- a report as it is printed is the text of the states along its run
by_states : ReportsAreText → (told old new : Option (List ℕ)) → IfSome told (λ bytes. Wrote (Report (Plain Text)) bytes old new) → IfSome told (λ bytes. Reports text_report bytes old new)
by_states texts None old new wrote = tt
by_states texts (Some bytes) old new (text, (s, spells, is), all) =
    record { script = s; spells = spells; report = subst (Appends old new) (sym is ∙ sym (texts s)) all }

-- the report that `replay` asks for is the one in text
pub plain_report : ReportsAreText → (words : List (String Global)) (told old new : Option (List ℕ)) → AskToReplay words
    → ((wanted : Request) → asked words ≡ Some wanted → IfSome told (λ bytes. Wrote wanted bytes old new)) → IfSome told (λ bytes. Reports text_report bytes old new)
plain_report texts words told old new asks wrote = by_states texts told old new (wrote (Report (Plain Text)) (ap request_of asks))

-- a text that is told has a rejected line, and so is that of no lawful run
told_unlawful : ((text : List ℕ) (line : ℕ) → read_journal text ≡ Err line → IsOfNoLawfulRun text) → (status : Status) (told : Option (List ℕ)) (line : ℕ) → status ≡ Unlawful line → IfSome told (TellsFault (Some Verify) status) → IfSome told IsOfNoLawfulRun
told_unlawful law status None line is tells = tt
told_unlawful law status (Some bytes) line is tells = law bytes line ((tells line).0 is)

-- the status Unlawful comes of texts that are those of no lawful run
pub unlawful_text : ((text : List ℕ) (line : ℕ) → read_journal text ≡ Err line → IsOfNoLawfulRun text) → (request : Option Request) (status : Status) (told : Option (List ℕ)) (line : ℕ) → MayCome status request → (ReadsInput request → IsRead status → IfSome told (TellsFault request status)) → status ≡ Unlawful line → IfSome told IsOfNoLawfulRun
unlawful_text law (Some Verify) status told line comes fault is = told_unlawful law status told line is (fault tt (subst IsRead (sym is) tt))
unlawful_text law (Some (Heat columns)) status told line comes fault is = told_unlawful law status told line is (fault tt (subst IsRead (sym is) tt))
unlawful_text law (Some (Report run)) status told line comes fault is = absurd (subst (λ (s : Status). MayCome s (Some (Report run))) is comes)
unlawful_text law (Some Admin) status told line comes fault is = absurd (subst (λ (s : Status). MayCome s (Some Admin)) is comes)
unlawful_text law (Some (Generate n)) status told line comes fault is = absurd (subst (λ (s : Status). MayCome s (Some (Generate n))) is comes)
unlawful_text law None status told line comes fault is = absurd (subst (λ (s : Status). MayCome s None) is comes)
