-- What the status of a run says, end by end.
use Rattle.std.proofs.Common.{◌≡◌, ◌⊎◌, inl, inr, ◌≤◌, ◌<◌, ◌+◌, ℕ, true, false, List, length, Some, Result, Ok, Err, refl, sym, ap, ◌∙◌, subst, arith}
use Rattle.std.proofs.lemmas.Bool.{lt-ltb, le-ltb}
use Rattle.std.proofs.lemmas.Bool.Decides.{nat_tests}
use Rattle.std.specs.Prelude.{nat_le}
use Rattle.std.specs.Prelude.{◌≢◌, ◌↔◌, IsSome, IfErr, IfSome, IsErrOf, OnOk}
use Rattle.std.specs.Io.KnownBytes.{Appends, Consumes, IsAtEnd}
use Rattle.damon_types.specs.Calls.{EndsAtFault, Rose}
use Rattle.text_io.specs.declared.input.InputFault.{InputFault}
use Rattle.text_io.specs.declared.input.InputFault.TheVariants as inputs
use Rattle.text_io.specs.Ends.{Ends}
use Rattle.text_io.specs.Given.{GaveOver, GaveUpTo}
use Rattle.text_io.specs.Taken.{WritesPart}
use Rattle.script_lines.specs.declared.kind.ScriptKind.{ScriptKind}
use Rattle.damon_control.specs.declared.fault.ReadFail.{ReadFail}
use Rattle.damon_control.specs.declared.fault.ReadFail.TheVariants as reads
use Rattle.damon_control.specs.declared.fault.ScriptFault.{ScriptFault}
use Rattle.damon_control.specs.Live.{LiveValue}
use Rattle.damon_control.specs.Script.{live_of}
use Rattle.run_journal.specs.declared.entry.Receipt.{Receipt}
use Rattle.run_status.specs.declared.status.Status.{Status}
use Rattle.run_status.specs.declared.status.Status.TheVariants as statuses
use Rattle.run_journal.specs.Replay.{JournalValue}
use Rattle.journal_text.specs.Rules.{IsReadBack}
use Rattle.run_status.specs.Status.{EndsRun, IsFailure, IsRead, IsUnwritten, input_status, read_status, status_of}
use Rattle.journal_text.specs.Text.{journal_text}
use Rattle.damon_live.specs.declared.top.TheConstants.{MAX_RESULTS}
use Rattle.damon_live.specs.Answers.{IsEnding}
use Rattle.damon_live.specs.Ending.{Ending, HasRun, TellsFault, TellsPasses, ended_early, most_results, status_of_input, status_of_spelled}
use Rattle.damon_live.specs.Whole.{IsWholeRun}
use Rattle.text_io.proofs.Lemmas.{EndsAtFault-as, EndsAtFault-error, EndsAtFault-none, EndsAtFault-not, EndsAtFault-rose}
use Rattle.damon_live.proofs.Known.{few_not_over, had_over, none_given, read_whole, untold}

-- a fault is its line and its kind
same_fault : (f g : ScriptFault) → f.line ≡ g.line → f.kind ≡ g.kind → f ≡ g
same_fault f g line kind = ap (λ (n : ℕ). record f { line = n }) line ∙ ap (λ (k : ScriptKind). record g { kind = k }) kind

-- ---- the status of an input

input_is_long : (limit : ℕ) (bytes : List ℕ) → limit < length bytes → status_of_input limit bytes ≡ statuses.TooLong
input_is_long limit bytes over = rw (lt-ltb limit (length bytes) over) refl

input_is_spelled : (limit : ℕ) (bytes : List ℕ) (spelled : Result LiveValue ScriptFault) → length bytes ≤ limit → live_of bytes ≡ spelled → status_of_input limit bytes ≡ status_of_spelled spelled
input_is_spelled limit bytes spelled few spells = by ∙ ap status_of_spelled spells
  where
    by : status_of_input limit bytes ≡ status_of_spelled (live_of bytes)
    by = rw (le-ltb limit (length bytes) few) refl

pub fits_results : (v : LiveValue) → most_results v ≤ MAX_RESULTS → status_of_spelled (Ok v) ≡ statuses.Ok
fits_results v few = let tests : nat_le (most_results v) MAX_RESULTS ≡ true = grind (arith, nat_tests, few) in rw tests refl

pub too_many_results : (v : LiveValue) → MAX_RESULTS < most_results v → status_of_spelled (Ok v) ≡ statuses.TooManyPasses v.passes v.setup.cap
too_many_results v many = let tests : nat_le (most_results v) MAX_RESULTS ≡ false = grind (arith, nat_tests, many) in rw tests refl

-- ---- other words

-- the answer to other words than `run`
pub not_asked : (limit : ℕ) (source sink : Ends) (alone same : Type 0) → alone → same → IsEnding limit false source source sink sink alone same (ended_early statuses.Usage)
not_asked limit source sink alone same left is = record {
  run = tt;
  script = tt;
  ran = λ no. absurd no;
  none = record { journal = refl; receipts = refl };
  ok = λ e. absurd (cc e);
  part = tt;
  back = tt;
  unwritten = is;
  early = λ yes. refl;
  comes = λ line e. cc e;
  end = λ e. absurd (cc e);
  complete = refl;
  usage = ((λ e f. absurd (cc f)), (λ not. refl));
  too_long = λ not known. ((λ e. absurd (cc e)), (λ gave. absurd (none_given limit source.bytes known gave)));
  fault = λ e. absurd (cc e);
  passes = λ e. absurd (cc e);
  reads = EndsAtFault-none source.calls (λ e. cc e);
  calls = omega arith;
  writes = EndsAtFault-none sink.calls (λ e. cc e);
  unread = λ not. left;
}

-- ---- no script was carried out

-- a status that comes before a run, and is not that of other words
record IsBeforeRun (status : Status) : Type 0 where
  ran : HasRun status → ⊥
  comes : (line : ℕ) → status ≢ statuses.Unlawful line
  usage : status ≢ statuses.Usage
  write : status ≢ statuses.WriteFault

-- the same of a sink in other words for that it was left alone
pub left_alone : (limit : ℕ) (source source' sink : Ends) (alone same : Type 0) (status : Status) → same → IsEnding limit true source source' sink sink (Unit {0}) (Unit {0}) (ended_early status) → IsEnding limit true source source' sink sink alone same (ended_early status)
left_alone limit source source' sink alone same status is e = record {
  run = e.run;
  script = e.script;
  ran = e.ran;
  none = e.none;
  ok = e.ok;
  part = e.part;
  back = e.back;
  unwritten = is;
  early = e.early;
  comes = e.comes;
  end = e.end;
  complete = e.complete;
  usage = e.usage;
  too_long = e.too_long;
  fault = e.fault;
  passes = e.passes;
  reads = e.reads;
  calls = e.calls;
  writes = e.writes;
  unread = λ not. absurd (not refl);
}

module _ (limit : ℕ) (source source' sink : Ends) where
  -- the status is the one of the bytes, or a failure
  abbrev HasStatus : Status → List ℕ → Type 0
  HasStatus status bytes = (status ≡ status_of_input limit bytes) ⊎ IsFailure status (Rose source.calls source'.calls) (Rose sink.calls sink.calls)

  abbrev Refused : Status → Type 0
  Refused status = IsEnding limit true source source' sink sink (Unit {0}) (Unit {0}) (ended_early status)

  -- how a source was read that did not fail
  abbrev ReadsWell : Type 0
  ReadsWell = EndsAtFault ⊥ source.calls source'.calls × (source'.calls.made ≤ source.calls.made + (limit + 1))

  -- the end before a run, by what differs from one such end to another
  refused : (status : Status) → IsBeforeRun status → (IsRead status → IsAtEnd source'.bytes) → IfSome source.bytes (HasStatus status)
      → (status ≢ statuses.Memory → IsSome source.bytes → (status ≡ statuses.TooLong) ↔ GaveOver limit source.bytes source'.bytes)
      → (IsRead status → IfSome source.bytes (TellsFault status)) → (IsRead status → IfSome source.bytes (TellsPasses status))
      → EndsAtFault (status ≡ statuses.ReadFault) source.calls source'.calls → source'.calls.made ≤ source.calls.made + (limit + 1) → Refused status
  refused status is end complete too_long fault passes reads calls = record {
    run = tt;
    script = tt;
    ran = λ yes. absurd (is.ran yes);
    none = record { journal = refl; receipts = refl };
    ok = λ e. tt;
    part = tt;
    back = tt;
    unwritten = tt;
    early = λ yes. refl;
    comes = is.comes;
    end = λ asked. end;
    complete = complete;
    usage = ((λ e. absurd (is.usage e)), (λ not. absurd (not refl)));
    too_long = too_long;
    fault = λ asked. fault;
    passes = λ asked. passes;
    reads = reads;
    calls = calls;
    writes = EndsAtFault-none sink.calls is.write;
    unread = λ not. tt;
  }

  -- there was no memory
  pub out_of_memory : ReadsWell → Refused statuses.Memory
  out_of_memory read =
      refused statuses.Memory (record { ran = λ no. no; comes = λ line e. cc e; usage = λ e. cc e; write = λ e. cc e })
      (λ no. absurd no) (untold (HasStatus statuses.Memory) source.bytes (λ bytes. inr tt)) (λ not known. absurd (not refl))
      (λ no. absurd no) (λ no. absurd no) (EndsAtFault-not (λ no. no) (λ e. cc e) read.0) read.1

  -- the input was not read to its end
  pub not_read : (fault : InputFault) → (fault ≡ inputs.TooLong → GaveOver limit source.bytes source'.bytes) → (fault ≡ inputs.Fault → GaveUpTo limit source.bytes source'.bytes) → EndsAtFault (fault ≡ inputs.Fault) source.calls source'.calls → source'.calls.made ≤ source.calls.made + (limit + 1) → Refused (input_status fault)
  not_read inputs.Memory over within reads calls = out_of_memory (EndsAtFault-not (λ e. cc e) (λ no. no) reads, calls)
  not_read inputs.Fault over within reads calls =
      refused statuses.ReadFault (record { ran = λ no. no; comes = λ line e. cc e; usage = λ e. cc e; write = λ e. cc e })
      (λ no. absurd no) (untold (HasStatus statuses.ReadFault) source.bytes (λ bytes. inr (EndsAtFault-rose refl reads)))
      (λ not known. ((λ e. absurd (cc e)), (λ gave. absurd (few_not_over limit source.bytes source'.bytes known (within refl) gave))))
      (λ no. absurd no) (λ no. absurd no) (EndsAtFault-as (λ e. refl) (λ e. refl) reads) calls
  not_read inputs.TooLong over within reads calls =
      refused statuses.TooLong (record { ran = λ no. no; comes = λ line e. cc e; usage = λ e. cc e; write = λ e. cc e })
      (λ no. absurd no) (had_over limit source.bytes source'.bytes (HasStatus statuses.TooLong) (over refl) (λ bytes long. inl (sym (input_is_long limit bytes long))))
      (λ not known. ((λ e. over refl), (λ gave. refl)))
      (λ no. absurd no) (λ no. absurd no) (EndsAtFault-not (λ e. cc e) (λ e. cc e) reads) calls

  -- what is known of an input that was read to its end
  module _ (bytes : List ℕ) (all : Consumes source.bytes source'.bytes bytes) (end : IsAtEnd source'.bytes) (few : length bytes ≤ limit) where
    of_bytes : (P : List ℕ → Type 0) → P bytes → IfSome source.bytes P
    of_bytes P holds = read_whole P source.bytes source'.bytes bytes all end holds

    not_over : IsSome source.bytes → GaveOver limit source.bytes source'.bytes → ⊥
    not_over known gave = few_not_over limit source.bytes source'.bytes known (bytes, few, all) gave

    has_status : (spelled : Result LiveValue ScriptFault) → live_of bytes ≡ spelled → IfSome source.bytes (HasStatus (status_of_spelled spelled))
    has_status spelled spells = of_bytes (HasStatus (status_of_spelled spelled)) (inl (sym (input_is_spelled limit bytes spelled few spells)))

    -- the text has this fault
    faulty : (fault : ScriptFault) → ReadsWell → live_of bytes ≡ Err fault → Refused (statuses.Script fault.line fault.kind)
    faulty fault read spells =
        refused (statuses.Script fault.line fault.kind) (record { ran = λ no. no; comes = λ line e. cc e; usage = λ e. cc e; write = λ e. cc e })
        (λ yes. end) (has_status (Err fault) spells)
        (λ not known. ((λ e. absurd (cc e)), (λ gave. absurd (not_over known gave))))
        (λ yes. of_bytes (TellsFault (statuses.Script fault.line fault.kind)) (λ other. (
          (λ e. spells ∙ ap (λ f. Err f) (same_fault fault other (cc e) (cc e))),
          (λ e. let one : Err fault ≡ Err other = sym spells ∙ e in let equal : fault ≡ other = cc one in rw equal refl),
        )))
        (λ yes. of_bytes (TellsPasses (statuses.Script fault.line fault.kind)) (λ v says. absurd (let two : Err fault ≡ Ok v = sym spells ∙ says in cc two)))
        (EndsAtFault-not (λ no. no) (λ e. cc e) read.0) read.1

    -- the text was not read as a live script
    pub not_spelled : (fail : ReadFail) → ReadsWell → ((fault : ScriptFault) → fail ≡ reads.Script fault → live_of bytes ≡ Err fault) → Refused (read_status fail)
    not_spelled reads.Memory read fault = out_of_memory read
    not_spelled (reads.Script f) read fault = faulty f read (fault f refl)

    -- the text is a live script with too many passes
    pub too_many : (v : LiveValue) → ReadsWell → live_of bytes ≡ Ok v → MAX_RESULTS < most_results v → Refused (statuses.TooManyPasses v.passes v.setup.cap)
    too_many v read spells many =
        refused (statuses.TooManyPasses v.passes v.setup.cap) (record { ran = λ no. no; comes = λ line e. cc e; usage = λ e. cc e; write = λ e. cc e })
        (λ yes. end) (subst (λ status. IfSome source.bytes (HasStatus status)) (too_many_results v many) (has_status (Ok v) spells))
        (λ not known. ((λ e. absurd (cc e)), (λ gave. absurd (not_over known gave))))
        (λ yes. of_bytes (TellsFault (statuses.TooManyPasses v.passes v.setup.cap)) (λ other. (
          (λ e. absurd (cc e)),
          (λ e. absurd (let two : Ok v ≡ Err other = sym spells ∙ e in cc two)),
        )))
        (λ yes. of_bytes (TellsPasses (statuses.TooManyPasses v.passes v.setup.cap)) (λ w says.
        let same : v ≡ w = cc (sym spells ∙ says) in
        ((λ e. subst (λ u. MAX_RESULTS < most_results u) same many), (λ e. rw same refl))))
        (EndsAtFault-not (λ no. no) (λ e. cc e) read.0) read.1

-- ---- a script was carried out

-- a status of a run that was carried out
record IsAfterRun (status : Status) : Type 0 where
  early : IsUnwritten status → ⊥
  comes : (line : ℕ) → status ≢ statuses.Unlawful line
  usage : status ≢ statuses.Usage
  long : status ≢ statuses.TooLong
  fault : (f : ScriptFault) → status ≢ statuses.Script f.line f.kind
  passes : (n cap : ℕ) → status ≢ statuses.TooManyPasses n cap
  read : status ≢ statuses.ReadFault

module _ (limit : ℕ) (source source' sink sink' : Ends) (alone same : Type 0) (bytes : List ℕ) (all : Consumes source.bytes source'.bytes bytes) (end : IsAtEnd source'.bytes) (few : length bytes ≤ limit)
    (v : LiveValue) (j : JournalValue) (receipts : List (List Receipt)) (spells : live_of bytes ≡ Ok v) (fits : most_results v ≤ MAX_RESULTS) (whole : IsWholeRun v j receipts) (back : IsReadBack v j receipts) (reads : EndsAtFault ⊥ source.calls source'.calls) (calls : source'.calls.made ≤ source.calls.made + (limit + 1)) (part : WritesPart sink.bytes sink'.bytes (journal_text v j receipts)) where
  abbrev ended : Status → Ending
  ended status = record { status = status; script = Some v; journal = j; receipts = receipts }

  abbrev HasRunStatus : Status → List ℕ → Type 0
  HasRunStatus status bs = (status ≡ status_of_input limit bs) ⊎ IsFailure status (Rose source.calls source'.calls) (Rose sink.calls sink'.calls)

  of_read : (P : List ℕ → Type 0) → P bytes → IfSome source.bytes P
  of_read P holds = read_whole P source.bytes source'.bytes bytes all end holds

  no_over : IsSome source.bytes → GaveOver limit source.bytes source'.bytes → ⊥
  no_over known gave = few_not_over limit source.bytes source'.bytes known (bytes, few, all) gave

  -- the end of a run, by what differs from one such end to another
  ran_to : (status : Status) → IsAfterRun status → (status ≡ statuses.Ok → Appends sink.bytes sink'.bytes (journal_text v j receipts))
      → HasRunStatus status bytes → EndsAtFault (status ≡ statuses.WriteFault) sink.calls sink'.calls → IsEnding limit true source source' sink sink' alone same (ended status)
  ran_to status is ok complete writes = record {
    run = whole;
    script = of_read (λ bs. live_of bs ≡ Ok v) spells;
    ran = λ yes. refl;
    none = tt;
    ok = ok;
    part = part;
    back = back;
    unwritten = tt;
    early = λ no. absurd (is.early no);
    comes = is.comes;
    end = λ asked yes. end;
    complete = of_read (HasRunStatus status) complete;
    usage = ((λ e. absurd (is.usage e)), (λ not. absurd (not refl)));
    too_long = λ not known. ((λ e. absurd (is.long e)), (λ gave. absurd (no_over known gave)));
    fault = λ asked yes. of_read (TellsFault status) (λ fault. (
      (λ e. absurd (is.fault fault e)),
      (λ e. absurd (let two : Ok v ≡ Err fault = sym spells ∙ e in cc two)),
    ));
    passes = λ asked yes. of_read (TellsPasses status) (λ w says.
        let one : v ≡ w = cc (sym spells ∙ says) in
        ((λ e. absurd (is.passes w.passes w.setup.cap e)), (λ many. absurd (omega (arith, many, subst (λ u. most_results u ≤ MAX_RESULTS) one fits)))));
    reads = EndsAtFault-not (λ no. no) is.read reads;
    calls = calls;
    writes = writes;
    unread = λ not. absurd (not refl);
  }

  -- all of the text was written
  written : EndsAtFault ⊥ sink.calls sink'.calls → Appends sink.bytes sink'.bytes (journal_text v j receipts) → IsEnding limit true source source' sink sink' alone same (ended statuses.Ok)
  written silent taken =
      ran_to statuses.Ok (record { early = λ no. no; comes = λ line e. cc e; usage = λ e. cc e; long = λ e. cc e; fault = λ f e. cc e; passes = λ n cap e. cc e; read = λ e. cc e })
      (λ e. taken) (inl (sym (input_is_spelled limit bytes (Ok v) few spells ∙ fits_results v fits))) (EndsAtFault-not (λ no. no) (λ e. cc e) silent)

  -- the text was not written whole
  not_written : (status : Status) → EndsRun status → EndsAtFault (status ≡ statuses.WriteFault) sink.calls sink'.calls → IsEnding limit true source source' sink sink' alone same (ended status)
  not_written statuses.WriteFault ends writes =
      ran_to statuses.WriteFault (record { early = λ no. no; comes = λ line e. cc e; usage = λ e. cc e; long = λ e. cc e; fault = λ f e. cc e; passes = λ n cap e. cc e; read = λ e. cc e })
      (λ e. absurd (cc e)) (inr (EndsAtFault-rose refl writes)) writes
  not_written statuses.Memory ends writes =
      ran_to statuses.Memory (record { early = λ no. no; comes = λ line e. cc e; usage = λ e. cc e; long = λ e. cc e; fault = λ f e. cc e; passes = λ n cap e. cc e; read = λ e. cc e })
      (λ e. absurd (cc e)) (inr tt) writes
  not_written statuses.Ok ends writes = absurd ends
  not_written statuses.Usage ends writes = absurd ends
  not_written (statuses.Script line kind) ends writes = absurd ends
  not_written statuses.TooLong ends writes = absurd ends
  not_written statuses.ReadFault ends writes = absurd ends
  not_written (statuses.TooManyPasses passes cap) ends writes = absurd ends
  not_written (statuses.Unlawful line) ends writes = absurd ends

  -- what the status says of a run whose text was handed over
  pub handed_over : (r : Result (Unit {0}) Status) → OnOk r (Appends sink.bytes sink'.bytes (journal_text v j receipts)) → IfErr r EndsRun → EndsAtFault (IsErrOf r statuses.WriteFault) sink.calls sink'.calls → IsEnding limit true source source' sink sink' alone same (ended (status_of r))
  handed_over (Ok done) taken ends writes = written (EndsAtFault-not (λ e. cc e) (λ no. no) writes) taken
  handed_over (Err status) taken ends writes = not_written status ends (EndsAtFault-error writes)
