-- What the program answers to each request.
use Rattle.std.proofs.Common.{◌≡◌, ◌⊎◌, inl, inr, ℕ, List, Option, Some, None, Result, Ok, Err, refl, subst, arith}
use Rattle.std.specs.Prelude.{◌↔◌, IfSome, IsSome, IfErr, IsErrOf, OnOk}
use Rattle.std.specs.Io.KnownBytes.{Appends}
use Rattle.damon_types.specs.Calls.{EndsAtFault, Rose}
use Rattle.damon_control.specs.declared.fault.ScriptFault.{ScriptFault}
use Rattle.damon_control.specs.Script.{script_of}
use Rattle.damon_app.specs.declared.request.Request.TheVariants.{Report, Verify, Heat, Admin, Generate}
use Rattle.run_status.specs.declared.status.Status.{Status}
use Rattle.run_status.specs.declared.status.Status.TheVariants as statuses
use Rattle.journal_text.specs.Place.{JournalRead}
use Rattle.journal_text.specs.Reading.{read_journal}
use Rattle.damon_app.specs.Generated.{gen_text}
use Rattle.text_io.specs.Given.{GaveOver}
use Rattle.text_io.specs.Taken.{WritesPart}
use Rattle.damon_app.specs.declared.request.Request.{Request}
use Rattle.damon_admin.specs.Lines.{lines_said}
use Rattle.run_status.specs.Status.{EndsRun, IsFailure, status_of}
use Rattle.text_io.specs.Ends.{Ends}
use Rattle.damon_app.specs.StatusOf.{status_of_input, status_of_journal, status_of_spelled}
use Rattle.damon_app.specs.Request.{ReadsInput}
use Rattle.damon_app.specs.Replay.{IsBegun, IsExpected, IsOfInput, MayWrite, TellsFault, Wrote}
use Rattle.std.proofs.KnownBytes.{Appends-nil}
use Rattle.damon_app.proofs.Answering.{untold}
use Rattle.damon_app.specs.Answers.{IsAnswer, IsOutcome, IsRefusal, RefusesAs}
use Rattle.damon_app.proofs.Statuses.{journal_line, spelled_fault}
use Rattle.text_io.proofs.Lemmas.{EndsAtFault-error, EndsAtFault-none, EndsAtFault-not, EndsAtFault-rose}
use Rattle.damon_app.proofs.Known.{GaveUpTo-none, GaveUpTo-not_over}

-- a source that was left alone gave nothing
none_given : (limit : ℕ) (a : Option (List ℕ)) → IsSome a → GaveOver limit a a → ⊥
none_given limit a known gave = GaveUpTo-not_over limit a a known (GaveUpTo-none limit a) gave

-- what is told of each text is told of the bytes
each : (P Q : List ℕ → Type 0) (told : Option (List ℕ)) → ((bytes : List ℕ) → P bytes → Q bytes) → IfSome told P → IfSome told Q
each P Q None more is = tt
each P Q (Some bytes) more is = more bytes is

-- what was asked for is one request
one : (r wanted : Request) → Some r ≡ Some wanted → r ≡ wanted
one r wanted is = cc is

-- the status refuses what was read exactly where that has a fault, or a rejected line
tells_script : {A : Type 0} {status : Status} (said : Result A ScriptFault) → ((refusal : Status) → IsRefusal refusal → (status ≡ refusal) ↔ (status_of_spelled said ≡ refusal))
    → (fault : ScriptFault) → (status ≡ statuses.Script fault.line fault.kind) ↔ (said ≡ Err fault)
tells_script said refuses fault =
    let by = refuses (statuses.Script fault.line fault.kind) tt in
    let says = spelled_fault said fault in
    ((λ e. says.0 (by.0 e)), (λ e. by.1 (says.1 e)))

tells_journal : {status : Status} (said : Result JournalRead ℕ) → ((refusal : Status) → IsRefusal refusal → (status ≡ refusal) ↔ (status_of_journal said ≡ refusal))
    → (line : ℕ) → (status ≡ statuses.Unlawful line) ↔ (said ≡ Err line)
tells_journal said refuses line =
    let by = refuses (statuses.Unlawful line) tt in
    let says = journal_line said line in
    ((λ e. says.0 (by.0 e)), (λ e. by.1 (says.1 e)))

-- the answer to a request for which an input is read
module _ (limit : ℕ) (source source' sink sink' : Ends) (unread same : Type 0) (status : Status) where
  expected : (r : Request) → ReadsInput (Some r) → IsOfInput r status limit source.bytes (Rose source.calls source'.calls) (Rose sink.calls sink'.calls)
      → IsExpected (Some r) status limit source.bytes (Rose source.calls source'.calls) (Rose sink.calls sink'.calls)
  expected (Report run) input is = is
  expected Verify input is = is
  expected (Heat columns) input is = is
  expected Admin input is = is
  expected (Generate n) input is = absurd input

  begun : (r : Request) → ReadsInput (Some r) → IfSome source.bytes (λ bytes. MayWrite r same bytes sink.bytes sink'.bytes) → IsBegun (Some r) same source.bytes sink.bytes sink'.bytes
  begun (Report run) input is = is
  begun Verify input is = is
  begun (Heat columns) input is = is
  begun Admin input is = is
  begun (Generate n) input is = absurd input

  tells : (r : Request) → ReadsInput (Some r) → (bytes : List ℕ) → RefusesAs r status bytes → TellsFault (Some r) status bytes
  tells (Report run) input bytes refuses = tells_script (script_of bytes) refuses
  tells Verify input bytes refuses = tells_journal (read_journal bytes) refuses
  tells (Heat columns) input bytes refuses = tells_journal (read_journal bytes) refuses
  tells Admin input bytes refuses = tells_script (lines_said bytes) refuses
  tells (Generate n) input bytes refuses = absurd input

  pub answered : (r : Request) → ReadsInput (Some r) → IsOutcome limit r source source' sink sink' same status → IsAnswer limit (Some r) source source' sink sink' unread same status
  answered r input is = record {
    wrote = λ wanted e asks. subst (λ (x : Request). IfSome source.bytes (λ bytes. Wrote x bytes sink.bytes sink'.bytes)) (one r wanted asks) (is.ok e);
    summary = λ n e asks. absurd (subst (λ (x : Option Request). ReadsInput x) asks input);
    end = λ _. is.end;
    complete = expected r input is.complete;
    usage = λ free. ((λ e. absurd (is.asked e)), (λ e. absurd (cc e)));
    comes = is.comes;
    too_long = is.too_long;
    refused = λ _ yes. each (RefusesAs r status) (TellsFault (Some r) status) source.bytes (tells r input) (is.refused yes);
    reads = is.reads;
    calls = is.calls;
    writes = is.writes;
    unread = λ not. absurd (not input);
    unwritten = is.unwritten;
    prefix = begun r input is.prefix;
  }

-- the answer to no request
pub not_asked : (limit : ℕ) (source sink : Ends) (unread same : Type 0) → unread → same → IsAnswer limit None source source sink sink unread same statuses.Usage
not_asked limit source sink unread same left_alone is = record {
  wrote = λ wanted e. absurd (cc e);
  summary = λ n e. absurd (cc e);
  end = λ reads. absurd reads;
  complete = inl refl;
  usage = λ free. ((λ e. refl), (λ e. refl));
  comes = tt;
  too_long = λ not known. ((λ e. absurd (cc e)), (λ gave. absurd (none_given limit source.bytes known gave)));
  refused = λ reads. absurd reads;
  reads = EndsAtFault-none source.calls (λ e. cc e);
  calls = omega arith;
  writes = EndsAtFault-none sink.calls (λ e. cc e);
  unread = λ not. left_alone;
  unwritten = λ yes. is;
  prefix = is;
}

-- the answer where there was no memory to read the words
pub no_room : (limit : ℕ) (request : Option Request) (source sink : Ends) (unread same : Type 0) → unread → same → IsAnswer limit request source source sink sink unread same statuses.Memory
no_room limit request source sink unread same left_alone is = record {
  wrote = λ wanted e. absurd (cc e);
  summary = λ n e. absurd (cc e);
  end = λ reads no. absurd no;
  complete = expected_by request;
  usage = λ free. absurd (free refl);
  comes = tt;
  too_long = λ free. absurd (free refl);
  refused = λ reads no. absurd no;
  reads = EndsAtFault-none source.calls (λ e. cc e);
  calls = omega arith;
  writes = EndsAtFault-none sink.calls (λ e. cc e);
  unread = λ not. left_alone;
  unwritten = λ no. absurd no;
  prefix = begun_by request;
}
  where
    unknown : (r : Request) → IsOfInput r statuses.Memory limit source.bytes (Rose source.calls source.calls) (Rose sink.calls sink.calls)
    unknown r = untold (λ bytes. (statuses.Memory ≡ status_of_input r limit bytes) ⊎ IsFailure statuses.Memory (Rose source.calls source.calls) (Rose sink.calls sink.calls)) source.bytes (λ bytes. inr tt)

    expected_by : (request : Option Request) → IsExpected request statuses.Memory limit source.bytes (Rose source.calls source.calls) (Rose sink.calls sink.calls)
    expected_by (Some (Report run)) = unknown (Report run)
    expected_by (Some Verify) = unknown Verify
    expected_by (Some (Heat columns)) = unknown (Heat columns)
    expected_by (Some Admin) = unknown Admin
    expected_by (Some (Generate n)) = inr tt
    expected_by None = inr tt

    alone : (r : Request) → IfSome source.bytes (λ bytes. MayWrite r same bytes sink.bytes sink.bytes)
    alone r = untold (λ bytes. MayWrite r same bytes sink.bytes sink.bytes) source.bytes (λ bytes. inl is)

    begun_by : (request : Option Request) → IsBegun request same source.bytes sink.bytes sink.bytes
    begun_by (Some (Report run)) = alone (Report run)
    begun_by (Some Verify) = alone Verify
    begun_by (Some (Heat columns)) = alone (Heat columns)
    begun_by (Some Admin) = alone Admin
    begun_by (Some (Generate n)) = (0, omega arith, Appends-nil sink.bytes)
    begun_by None = is

-- the answer to a request for a generated run
module _ (limit n : ℕ) (source sink sink' : Ends) (unread same : Type 0) (left_alone : unread) (part : WritesPart sink.bytes sink'.bytes (gen_text n)) where
  pub generated : EndsAtFault ⊥ sink.calls sink'.calls → Appends sink.bytes sink'.bytes (gen_text n) → IsAnswer limit (Some (Generate n)) source source sink sink' unread same statuses.Ok
  generated silent all = record {
    wrote = λ wanted e asks. untold (λ bytes. Wrote wanted bytes sink.bytes sink'.bytes) source.bytes
        (λ bytes. subst (λ (x : Request). Wrote x bytes sink.bytes sink'.bytes) (one (Generate n) wanted asks) (gen_text n, refl, all));
    summary = λ m e asks. let same : n ≡ m = cc asks in subst (λ k. Appends sink.bytes sink'.bytes (gen_text k)) same all;
    end = λ reads. absurd reads;
    complete = inl refl;
    usage = λ free. ((λ e. absurd (cc e)), (λ e. absurd (cc e)));
    comes = tt;
    too_long = λ not known. ((λ e. absurd (cc e)), (λ gave. absurd (none_given limit source.bytes known gave)));
    refused = λ reads. absurd reads;
    reads = EndsAtFault-none source.calls (λ e. cc e);
    calls = omega arith;
    writes = EndsAtFault-not (λ no. no) (λ e. cc e) silent;
    unread = λ not. left_alone;
    unwritten = λ no. absurd no;
    prefix = part;
  }

  pub not_generated : (status : Status) → EndsRun status → EndsAtFault (status ≡ statuses.WriteFault) sink.calls sink'.calls → IsAnswer limit (Some (Generate n)) source source sink sink' unread same status
  not_generated statuses.WriteFault ends writes = record {
    wrote = λ wanted e. absurd (cc e);
    summary = λ m e. absurd (cc e);
    end = λ reads. absurd reads;
    complete = inr (EndsAtFault-rose refl writes);
    usage = λ free. ((λ e. absurd (cc e)), (λ e. absurd (cc e)));
    comes = tt;
    too_long = λ not known. ((λ e. absurd (cc e)), (λ gave. absurd (none_given limit source.bytes known gave)));
    refused = λ reads. absurd reads;
    reads = EndsAtFault-none source.calls (λ e. cc e);
    calls = omega arith;
    writes = writes;
    unread = λ not. left_alone;
    unwritten = λ no. absurd no;
    prefix = part;
  }
  not_generated statuses.Memory ends writes = record {
    wrote = λ wanted e. absurd (cc e);
    summary = λ m e. absurd (cc e);
    end = λ reads. absurd reads;
    complete = inr tt;
    usage = λ free. ((λ e. absurd (cc e)), (λ e. absurd (cc e)));
    comes = tt;
    too_long = λ not known. absurd (not refl);
    refused = λ reads. absurd reads;
    reads = EndsAtFault-none source.calls (λ e. cc e);
    calls = omega arith;
    writes = EndsAtFault-not (λ e. cc e) (λ e. cc e) writes;
    unread = λ not. left_alone;
    unwritten = λ no. absurd no;
    prefix = part;
  }
  not_generated statuses.Ok ends writes = absurd ends
  not_generated statuses.Usage ends writes = absurd ends
  not_generated (statuses.Script line kind) ends writes = absurd ends
  not_generated statuses.TooLong ends writes = absurd ends
  not_generated statuses.ReadFault ends writes = absurd ends
  not_generated (statuses.TooManyPasses passes cap) ends writes = absurd ends
  not_generated (statuses.Unlawful line) ends writes = absurd ends

  pub summarized : (r : Result (Unit {0}) Status) → OnOk r (Appends sink.bytes sink'.bytes (gen_text n)) → IfErr r EndsRun → EndsAtFault (IsErrOf r statuses.WriteFault) sink.calls sink'.calls → IsAnswer limit (Some (Generate n)) source source sink sink' unread same (status_of r)
  summarized (Ok done) all ends writes = generated (EndsAtFault-not (λ e. cc e) (λ no. no) writes) all
  summarized (Err status) all ends writes = not_generated status ends (EndsAtFault-error writes)
