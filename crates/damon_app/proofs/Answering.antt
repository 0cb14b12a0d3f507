-- What a status says of a request for which an input is read, failure by failure.
use Rattle.std.proofs.Common.{◌≡◌, ◌⊎◌, inl, inr, ℕ, ◌≤◌, ◌+◌, List, ◌++◌, length, Option, Some, None, refl, sym, ap, ◌∙◌, subst, append-nil}
use Rattle.std.specs.Prelude.{IsSome, IfSome}
use Rattle.std.specs.Io.KnownBytes.{Appends, Consumes, IsAtEnd}
use Rattle.damon_types.specs.Calls.{EndsAtFault, Rose}
use Rattle.damon_control.specs.declared.fault.ReadFail.{ReadFail}
use Rattle.damon_control.specs.declared.fault.ReadFail.TheVariants as reads
use Rattle.damon_control.specs.declared.fault.ScriptFault.{ScriptFault}
use Rattle.text_io.specs.declared.input.InputFault.{InputFault}
use Rattle.text_io.specs.declared.input.InputFault.TheVariants as inputs
use Rattle.damon_app.specs.declared.request.Request.{Request}
use Rattle.run_journal.specs.declared.lawful.VerifyFault.{VerifyFault}
use Rattle.run_journal.specs.declared.lawful.VerifyFault.TheVariants as verifies
use Rattle.run_status.specs.declared.status.Status.{Status}
use Rattle.run_status.specs.declared.status.Status.TheVariants as statuses
use Rattle.text_io.specs.Given.{GaveOver, GaveUpTo}
use Rattle.text_io.specs.Taken.{WritesPart}
use Rattle.run_status.specs.Status.{EndsRun, IsFailure, input_status, read_status, verify_status}
use Rattle.text_io.specs.Ends.{Ends}
use Rattle.damon_app.specs.Replay.{MayCome, MayWrite, Wrote}
use Rattle.damon_app.specs.StatusOf.{status_of_input, status_of_text}
use Rattle.damon_app.specs.Answers.{IsOutcome, IsRefusal, IsTaken, RefusesAs}
use Rattle.text_io.proofs.Lemmas.{EndsAtFault-as, EndsAtFault-not, EndsAtFault-rose}
use Rattle.damon_app.proofs.Known.{GaveUpTo-not_over, WritesPart-whole}
use Rattle.damon_app.proofs.Statuses.{had_over, status_of_input-long, status_of_input-short, text_comes}

-- what holds of no bytes in particular
pub untold : (P : List ℕ → Type 0) (told : Option (List ℕ)) → ((bytes : List ℕ) → P bytes) → IfSome told P
untold P None all = tt
untold P (Some bytes) all = all bytes

-- bytes that are read to the end are those that were left
read_whole : (P : List ℕ → Type 0) (a b : Option (List ℕ)) (bytes : List ℕ) → Consumes a b bytes → IsAtEnd b → P bytes → IfSome a P
read_whole P None b bytes all end holds = tt
read_whole P (Some us) None bytes all end holds = absurd all
read_whole P (Some us) (Some vs) bytes all end holds = subst P (sym (all ∙ ap (λ zs. bytes ++ zs) end ∙ append-nil bytes)) holds

-- the sink was left alone
alone : (request : Request) (a : Option (List ℕ)) (old new : Option (List ℕ)) (same : Type 0) → same → IfSome a (λ bytes. MayWrite request same bytes old new)
alone request a old new same is = untold (λ bytes. MayWrite request same bytes old new) a (λ bytes. inl is)

-- what a status says of a sink that was left alone, in other words for that
pub left_alone : (limit : ℕ) (request : Request) (source source' sink : Ends) (same : Type 0) (status : Status) → same → IsOutcome limit request source source' sink sink (Unit {0}) status → IsOutcome limit request source source' sink sink same status
left_alone limit request source source' sink same status is outcome = record {
  ok = outcome.ok;
  end = outcome.end;
  complete = outcome.complete;
  too_long = outcome.too_long;
  refused = outcome.refused;
  reads = outcome.reads;
  calls = outcome.calls;
  writes = outcome.writes;
  asked = outcome.asked;
  comes = outcome.comes;
  unwritten = λ yes. is;
  prefix = alone request source.bytes sink.bytes sink.bytes same is;
}

module _ (limit : ℕ) (request : Request) (source source' sink sink' : Ends) (same : Type 0) where
  -- the status is the one of the bytes, or a failure
  abbrev HasStatus : Status → List ℕ → Type 0
  HasStatus status bytes = (status ≡ status_of_input request limit bytes) ⊎ IsFailure status (Rose source.calls source'.calls) (Rose sink.calls sink'.calls)

  -- a failure is an answer to any bytes
  failed : (status : Status) → IsFailure status (Rose source.calls source'.calls) (Rose sink.calls sink'.calls) → IfSome source.bytes (HasStatus status)
  failed status is = untold (HasStatus status) source.bytes (λ bytes. inr is)

  -- how a source was read that did not fail, and how a sink was written to that did not
  abbrev ReadsWell : Type 0
  ReadsWell = EndsAtFault ⊥ source.calls source'.calls × (source'.calls.made ≤ source.calls.made + (limit + 1))

  abbrev WritesWell : Type 0
  WritesWell = EndsAtFault ⊥ sink.calls sink'.calls

  -- there was no memory, and what the sink took is this
  no_memory : ReadsWell → WritesWell → IfSome source.bytes (λ bytes. MayWrite request same bytes sink.bytes sink'.bytes) → IsOutcome limit request source source' sink sink' same statuses.Memory
  no_memory read silent part = record {
    ok = λ e. absurd (cc e);
    end = λ no. absurd no;
    complete = failed statuses.Memory tt;
    too_long = λ not known. absurd (not refl);
    refused = λ no. absurd no;
    reads = EndsAtFault-not (λ no. no) (λ e. cc e) read.0;
    calls = read.1;
    writes = EndsAtFault-not (λ no. no) (λ e. cc e) silent;
    asked = λ e. absurd (cc e);
    comes = tt;
    unwritten = λ no. absurd no;
    prefix = part;
  }

  -- there was no memory before anything was written
  pub out_of_memory : ReadsWell → WritesWell → same → IsOutcome limit request source source' sink sink' same statuses.Memory
  out_of_memory read silent is = no_memory read silent (alone request source.bytes sink.bytes sink'.bytes same is)

  -- the input was not read to its end
  pub not_read : (fault : InputFault) → same → (fault ≡ inputs.TooLong → GaveOver limit source.bytes source'.bytes) → (fault ≡ inputs.Fault → GaveUpTo limit source.bytes source'.bytes) → EndsAtFault (fault ≡ inputs.Fault) source.calls source'.calls → source'.calls.made ≤ source.calls.made + (limit + 1) → WritesWell → IsOutcome limit request source source' sink sink' same (input_status fault)
  not_read inputs.Memory is over within reads calls silent = out_of_memory (EndsAtFault-not (λ e. cc e) (λ no. no) reads, calls) silent is
  not_read inputs.Fault is over within reads calls silent = record {
    ok = λ e. absurd (cc e);
    end = λ no. absurd no;
    complete = failed statuses.ReadFault (EndsAtFault-rose refl reads);
    too_long = λ not known. ((λ e. absurd (cc e)), (λ gave. absurd (GaveUpTo-not_over limit source.bytes source'.bytes known (within refl) gave)));
    refused = λ no. absurd no;
    reads = EndsAtFault-as (λ e. refl) (λ e. refl) reads;
    calls = calls;
    writes = EndsAtFault-not (λ no. no) (λ e. cc e) silent;
    asked = λ e. absurd (cc e);
    comes = tt;
    unwritten = λ yes. is;
    prefix = alone request source.bytes sink.bytes sink'.bytes same is;
  }
  not_read inputs.TooLong is over within reads calls silent = record {
    ok = λ e. absurd (cc e);
    end = λ no. absurd no;
    complete = had_over limit source.bytes source'.bytes (HasStatus statuses.TooLong) (over refl) (λ bytes long. inl (sym (status_of_input-long request limit bytes long)));
    too_long = λ not known. ((λ e. over refl), (λ gave. refl));
    refused = λ no. absurd no;
    reads = EndsAtFault-not (λ e. cc e) (λ e. cc e) reads;
    calls = calls;
    writes = EndsAtFault-not (λ no. no) (λ e. cc e) silent;
    asked = λ e. absurd (cc e);
    comes = tt;
    unwritten = λ yes. is;
    prefix = alone request source.bytes sink.bytes sink'.bytes same is;
  }

  -- what is known of an input that was read to its end
  module _ (bytes : List ℕ) (all : Consumes source.bytes source'.bytes bytes) (end : IsAtEnd source'.bytes) (few : length bytes ≤ limit) where
    not_over : IsSome source.bytes → GaveOver limit source.bytes source'.bytes → ⊥
    not_over known gave = GaveUpTo-not_over limit source.bytes source'.bytes known (bytes, few, all) gave

    of_bytes : (P : List ℕ → Type 0) → P bytes → IfSome source.bytes P
    of_bytes P holds = read_whole P source.bytes source'.bytes bytes all end holds

    -- the status is the one of the text
    has_status : (status : Status) → status_of_text request bytes ≡ status → IfSome source.bytes (HasStatus status)
    has_status status is = of_bytes (HasStatus status) (inl (sym (status_of_input-short request limit bytes few ∙ is)))

    -- the text is refused for what it says
    refused_text : (refusal : Status) → IsRefusal refusal → ReadsWell → WritesWell → same → status_of_text request bytes ≡ refusal → IsOutcome limit request source source' sink sink' same refusal
    refused_text refusal refuses read silent is told = record {
      ok = λ e. absurd (subst IsRefusal e refuses);
      end = λ yes. end;
      complete = has_status refusal told;
      too_long = λ not known. ((λ e. absurd (subst IsRefusal e refuses)), (λ gave. absurd (not_over known gave)));
      refused = λ yes. of_bytes (RefusesAs request refusal) (λ other _. ((λ e. told ∙ e), (λ e. sym told ∙ e)));
      reads = EndsAtFault-not (λ no. no) (λ e. subst IsRefusal e refuses) read.0;
      calls = read.1;
      writes = EndsAtFault-not (λ no. no) (λ e. subst IsRefusal e refuses) silent;
      asked = λ e. absurd (subst IsRefusal e refuses);
      comes = subst (λ (status : Status). MayCome status (Some request)) told (text_comes request bytes);
      unwritten = λ yes. is;
      prefix = alone request source.bytes sink.bytes sink'.bytes same is;
    }

    -- the text was not read as a script
    pub not_spelled : (fail : ReadFail) → ReadsWell → WritesWell → same → ((fault : ScriptFault) → fail ≡ reads.Script fault → status_of_text request bytes ≡ statuses.Script fault.line fault.kind) → IsOutcome limit request source source' sink sink' same (read_status fail)
    not_spelled reads.Memory read silent is told = out_of_memory read silent is
    not_spelled (reads.Script fault) read silent is told = refused_text (statuses.Script fault.line fault.kind) tt read silent is (told fault refl)

    -- it is not the text of a lawful journal
    pub not_verified : (fault : VerifyFault) → ReadsWell → WritesWell → same → ((line : ℕ) → fault ≡ verifies.Unlawful line → status_of_text request bytes ≡ statuses.Unlawful line) → IsOutcome limit request source source' sink sink' same (verify_status fault)
    not_verified verifies.Memory read silent is told = out_of_memory read silent is
    not_verified (verifies.Unlawful line) read silent is told = refused_text (statuses.Unlawful line) tt read silent is (told line refl)

  -- the input calls for this text
  module _ (text : List ℕ) (taken : IsTaken limit request source source' text) where
    -- no status that ends the writing of it refuses it
    not_refused : (status : Status) → (IsRefusal status → ⊥) → IfSome source.bytes (RefusesAs request status)
    not_refused status not = of_bytes taken.bytes taken.all taken.end taken.few (RefusesAs request status) (λ refusal refuses. (
      (λ e. absurd (not (subst IsRefusal (sym e) refuses))),
      (λ e. absurd (subst IsRefusal (sym (sym taken.status ∙ e)) refuses)),
    ))

    -- what the sink took of it
    prefix_of : WritesPart sink.bytes sink'.bytes text → IfSome source.bytes (λ bytes. MayWrite request same bytes sink.bytes sink'.bytes)
    prefix_of part = of_bytes taken.bytes taken.all taken.end taken.few (λ bytes. MayWrite request same bytes sink.bytes sink'.bytes) (inr (text, taken.wanted, part))

    -- it was not written to its end
    pub not_written : (status : Status) → EndsRun status → EndsAtFault (status ≡ statuses.WriteFault) sink.calls sink'.calls → WritesPart sink.bytes sink'.bytes text → IsOutcome limit request source source' sink sink' same status
    not_written statuses.WriteFault ends writes part = record {
      ok = λ e. absurd (cc e);
      end = λ yes. taken.end;
      complete = failed statuses.WriteFault (EndsAtFault-rose refl writes);
      too_long = λ not known. ((λ e. absurd (cc e)), (λ gave. absurd (not_over taken.bytes taken.all taken.end taken.few known gave)));
      refused = λ yes. not_refused statuses.WriteFault (λ no. no);
      reads = EndsAtFault-not (λ no. no) (λ e. cc e) taken.reads;
      calls = taken.calls;
      writes = writes;
      asked = λ e. absurd (cc e);
      comes = tt;
      unwritten = λ no. absurd no;
      prefix = prefix_of part;
    }
    not_written statuses.Memory ends writes part = no_memory (taken.reads, taken.calls) (EndsAtFault-not (λ e. cc e) (λ no. no) writes) (prefix_of part)
    not_written statuses.Ok ends writes part = absurd ends
    not_written statuses.Usage ends writes part = absurd ends
    not_written (statuses.Script line kind) ends writes part = absurd ends
    not_written statuses.TooLong ends writes part = absurd ends
    not_written statuses.ReadFault ends writes part = absurd ends
    not_written (statuses.TooManyPasses passes cap) ends writes part = absurd ends
    not_written (statuses.Unlawful line) ends writes part = absurd ends

    -- it was written
    pub written : WritesWell → Appends sink.bytes sink'.bytes text → IsOutcome limit request source source' sink sink' same statuses.Ok
    written silent all = record {
      ok = λ e. of_bytes taken.bytes taken.all taken.end taken.few (λ bytes. Wrote request bytes sink.bytes sink'.bytes) (text, taken.wanted, all);
      end = λ yes. taken.end;
      complete = has_status taken.bytes taken.all taken.end taken.few statuses.Ok taken.status;
      too_long = λ not known. ((λ e. absurd (cc e)), (λ gave. absurd (not_over taken.bytes taken.all taken.end taken.few known gave)));
      refused = λ yes. not_refused statuses.Ok (λ no. no);
      reads = EndsAtFault-not (λ no. no) (λ e. cc e) taken.reads;
      calls = taken.calls;
      writes = EndsAtFault-not (λ no. no) (λ e. cc e) silent;
      asked = λ e. absurd (cc e);
      comes = tt;
      unwritten = λ no. absurd no;
      prefix = prefix_of (WritesPart-whole sink.bytes sink'.bytes text all);
    }
