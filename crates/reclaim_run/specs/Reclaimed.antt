-- What proactive reclaim adds to a run: directly after each aggregation a line, and the share of the pages that are out as a metric.
use Rattle.std.specs.Prelude.{ℕ, ◌*◌, ◌/◌, not, List, [], ◌∷◌, codes, Some, None}
use Rattle.std.specs.Fmt.{decimal}
use Rattle.damon_types.specs.Space.{pages_of}
use Rattle.live_commit.specs.Commit.{CommitValue}
use Rattle.damon_core.specs.After.{after}
use Rattle.damon_core.specs.Event.{Event, aggregate, commit}
use Rattle.damon_core.specs.State.{State}
use Rattle.snapshot_print.specs.Lines.{as_text}
use Rattle.snapshot_print.specs.Fields.{◌then◌}
use Rattle.damon_control.specs.Script.{ScriptValue}
use Rattle.script_run.specs.Callbacks.{Callbacks}
use Rattle.script_run.specs.RunWith.{report_with}
use Rattle.reclaim_module.specs.declared.reclaim.Counts.{Counts}
use Rattle.reclaim_module.specs.Counts.{pageouts_of, prefetches_of, refaults_of}
use Rattle.reclaim_module.specs.Out.{is_out}
use Rattle.page_bits.specs.Runs.{count_pages}

-- The pages of a space that are resident, those that are out, and how many went out and came back.
pub record Figures : Type 0 where
  pub resident : ℕ
  pub out : ℕ
  pub counts : Counts

-- the pages of a state's space
abbrev pub pages_in : State → ℕ
pages_in s = pages_of s.core.space

-- the figures of a state, by what has happened
abbrev pub figures_in : State → Figures
figures_in s = record {
  resident = count_pages (pages_in s) (λ page. not (is_out s.notes page));
  out = count_pages (pages_in s) (is_out s.notes);
  counts = record {
    pageouts = pageouts_of (pages_in s) s.notes;
    refaults = refaults_of s.notes;
    prefetches = prefetches_of (pages_in s) s.notes;
  };
}

-- a share of the pages in thousandths, rounded down
abbrev pub thousandths : ℕ → ℕ → ℕ
thousandths some all = 1000 * some / all

-- a commit of a metric alone
abbrev pub metric_commit : ℕ → CommitValue
metric_commit value = record { attrs = None; ranges = None; slot = None; metric = Some value; cost = None }

-- directly after an aggregation the share of the pages that are out is committed as the metric
abbrev pub share_after : State → Event → List Event
share_after s (aggregate words) = commit (metric_commit (thousandths (figures_in s).out (pages_in s))) ∷ []
share_after s _ = []

-- how many pages went out and came back, as the line tells it
abbrev pub counts_part : Counts → List ℕ
counts_part counts =
    codes " pageouts=" then decimal counts.pageouts then codes " refaults=" then decimal counts.refaults
    then codes " prefetches=" then decimal counts.prefetches then codes "\n"

-- the line of these figures at a tick
abbrev pub reclaim_line : ℕ → Figures → List ℕ
reclaim_line tick f =
    codes "reclaim tick=" then decimal tick then codes " resident=" then decimal f.resident
    then codes " out=" then decimal f.out then counts_part f.counts

-- the line of a state
abbrev pub line_in : State → List ℕ
line_in s = reclaim_line s.core.ticks (figures_in s)

-- it stands directly after the text of an aggregation
abbrev pub line_after : State → Event → List ℕ
line_after s (aggregate words) = line_in s
line_after s _ = []

-- Proactive reclaim: nothing is remembered, and the line stands once more after the last line of the report.
abbrev pub reclaim_callbacks : Callbacks
reclaim_callbacks = record {
  first = λ s. [];
  keeps = λ memory s e. memory;
  puts = λ memory s e. share_after (after s e) e;
  writes = λ memory s e. line_after s e;
  ends = λ memory s. line_in s;
}

-- the report of a script under proactive reclaim
abbrev pub reclaimed_report : ScriptValue → List ℕ
reclaimed_report s = report_with reclaim_callbacks as_text s
