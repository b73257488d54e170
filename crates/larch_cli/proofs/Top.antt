-- The laws of the whole call.
use Rattle.std.proofs.Common.{◌≡◌, ◌∙◌, ◌⊎◌, inl, inr, ℕ, ◌+◌, ◌≤◌, Bool, List, length, Result, Ok, Err, refl, sym, ap, subst, arith}
use Rattle.std.specs.Prelude.{◌≢◌}
use Rattle.files.specs.FilesState.{FilesState, faults_of}
use Rattle.outside.specs.Held.{Held}
use Rattle.scripts.specs.History.{History, nothing_yet, Ties, Reached}
use Rattle.scripts.specs.Outside.{Outside}
use Rattle.scripts.specs.Performing as performing
use Rattle.scripts.specs.Performing.{IsCalm, perform}
use Rattle.scripts.proofs.Calm.{Rises, calm, rises}
use Rattle.scripts.proofs.Laws.{along}
use Rattle.sinks.specs.SinkState.{SinkState, with_text, with_fault, with_want}
use Rattle.sinks.specs.Putting.{PuttingLeaves}
use Rattle.sinks.specs.Prefixes.{TakesPrefix}
use Rattle.sinks.specs.declared.putting.Putting.{Putting}
use Rattle.sinks.specs.declared.putting.Putting.TheVariants as putting
use Rattle.sinks.proofs.Texts.{with_text-append, with_text-nil}
use Rattle.larch_cli.specs.Commands.{Request, Steps, reasons, request_script, is_served}
use Rattle.larch_cli.specs.Plain as plain
use Rattle.larch_cli.specs.Plain.{Serves, Answered, CountsTell, FewCalls, Unchanged, UsageOnly, answer_on, most_reads, most_writes}
use Rattle.larch_cli.specs.Report.{Reports, Silent, Line, NoMemory, after_line}
use Rattle.larch_cli.specs.Status.{line_of, status_of}
use Rattle.larch_cli.specs.declared.status.Status.{Status}
use Rattle.larch_cli.specs.declared.status.Status.TheVariants as status
use Rattle.larch_cli.proofs.Causes.{Caused, Ends, request_ends}
use Rattle.larch_cli.proofs.Wide.{request_wide}

-- ---- counts

-- What is told of the call by its status.
abbrev Told : Bool → Outside → Outside → Status → Type 0
Told served old new answer = CountsTell old new answer × UsageOnly served answer × Unchanged old new answer

-- only a put that failed gives its status
no_put_fault : (served : Bool) (h : History) (gives : Result (Unit {0}) Status) → Caused served h gives → status_of gives ≢ status.SinkFault → h.put_faults ≡ 0
no_put_fault served h (Ok x) c other = c.1.1
no_put_fault served h (Err (status.FileFault name)) c other = c.2
no_put_fault served h (Err status.SinkFault) c other = absurd (other refl)
no_put_fault served h (Err status.Memory) c other = c
no_put_fault served h (Err status.Usage) c other = c.1.1
no_put_fault served h (Err s) c other = c.1.1

put_fault : (served : Bool) (h : History) (gives : Result (Unit {0}) Status) → Caused served h gives → status_of gives ≡ status.SinkFault → h.put_faults ≡ 1
put_fault served h (Ok x) c is = absurd (cc (is))
put_fault served h (Err status.SinkFault) c is = c.1
put_fault served h (Err s) c is = absurd (cc (is))

module _ (served : Bool) (h : History) (old new : Outside) (t : Ties nothing_yet h old new) where
  files_told : faults_of new.files ≡ faults_of old.files + h.file_faults
  files_told = omega (arith, t.file_faults)

  at_fault : h.put_faults ≡ 1 → Told served old new status.SinkFault
  at_fault p = ((t.out, t.err, omega (arith, t.put_faults, p)), tt, tt)

  at_memory : h.put_faults ≡ 0 → Told served old new status.Memory
  at_memory p = ((omega (arith, t.put_faults, p, t.out, t.err), omega (arith, t.put_faults, p, t.out, t.err)), tt, tt)

  quiet : h.file_faults ≡ 0 → h.put_faults ≡ 0 → (faults_of new.files ≡ faults_of old.files) × (new.out.faults ≡ old.out.faults) × (new.err.faults ≡ old.err.faults)
  quiet f p = (omega (arith, t.file_faults, f), omega (arith, t.put_faults, p, t.out, t.err), omega (arith, t.put_faults, p, t.out, t.err))

  -- the status that the script gave
  at_end : (gives : Result (Unit {0}) Status) → Caused served h gives → status_of gives ≢ status.SinkFault → Told served old new (status_of gives)
  at_end (Ok x) c other = (quiet c.1.0 c.1.1, c.0, tt)
  at_end (Err (status.FileFault name)) c other = ((omega (arith, t.file_faults, c.1), omega (arith, t.put_faults, c.2, t.out, t.err), omega (arith, t.put_faults, c.2, t.out, t.err)), c.0, tt)
  at_end (Err status.SinkFault) c other = absurd (other refl)
  at_end (Err status.Memory) c other = at_memory c
  at_end (Err status.Usage) c other = (quiet c.1.0 c.1.1, c.0, t.held c.2)
  at_end (Err status.Done) c other = (quiet c.1.0 c.1.1, c.0, tt)
  at_end (Err s) c other = (quiet c.1.0 c.1.1, c.0, t.held c.2)

-- the ties go on over the report, at which a put may fail
reported : (h : History) (n m : ℕ) (old mid new : Outside) → m ≡ h.put_faults + n → Ties nothing_yet h old mid → new.files ≡ mid.files → new.out ≡ mid.out → new.err.faults ≡ mid.err.faults + n → Ties nothing_yet (record h { put_faults = m }) old new
reported h n m old mid new is t files out err =
    let count : length new.files.calls ≡ length mid.files.calls = ap (λ (f : FilesState). length f.calls) files in
    let faults : faults_of new.files ≡ faults_of mid.files = ap faults_of files in
    let outs : new.out.faults ≡ mid.out.faults = ap (λ (s : SinkState). s.faults) out in
    record {
      calls = omega (arith, t.calls, count);
      file_faults = omega (arith, t.file_faults, faults);
      put_faults = omega (arith, is, t.put_faults, outs, err);
      out = omega (arith, t.out, outs);
      err = omega (arith, t.err, err);
      writes = t.writes;
      held = λ e. ap (λ (f : FilesState). f.held) files ∙ t.held e;
    }

faults_then : (old new : SinkState) (text : List ℕ) (then : SinkState → SinkState) (n : ℕ) → ((s : SinkState) → (then s).faults ≡ s.faults + n) → TakesPrefix old text then new → new.faults ≡ old.faults + n
faults_then old new text then n more p = ap (λ (s : SinkState). s.faults) p.now ∙ more (with_text p.front old)

module _ (served : Bool) (h : History) (gives : Result (Unit {0}) Status) (old mid new : Outside) (answer : Status) (c : Caused served h gives) (t : Ties nothing_yet h old mid) (files : new.files ≡ mid.files) (out : new.out ≡ mid.out) where
  same_ties : new.err.faults ≡ mid.err.faults → Ties nothing_yet h old new
  same_ties err = reported h 0 h.put_faults old mid new (omega arith) t files out (omega (arith, err))

  put_line : (s : Status) → status_of gives ≢ status.SinkFault → (Ties nothing_yet h old new → Told served old new s) → (put : Putting) → PuttingLeaves mid.err (line_of s) put new.err → answer ≡ after_line s put → Told served old new answer
  put_line s other wanted putting.Done l is = subst (Told served old new) (sym is) (wanted (same_ties (ap (λ (k : SinkState). k.faults) l)))
  put_line s other wanted putting.Failed l is =
      let more = reported h 1 1 old mid new (omega (arith, no_put_fault served h gives c other)) t files out (faults_then mid.err new.err (line_of s) with_fault 1 (λ k. refl) l) in
      subst (Told served old new) (sym is) (at_fault served _ old new more refl)
  put_line s other wanted putting.Memory l is =
      subst (Told served old new) (sym is) (at_memory served h old new (same_ties (faults_then mid.err new.err (line_of s) with_want 0 (λ k. omega arith) l ∙ omega arith)) (no_put_fault served h gives c other))

  pub tells : Reports (status_of gives) mid.err new.err answer → Told served old new answer
  tells (Silent is same a) = subst (Told served old new) (sym a) (at_fault served h old new (same_ties (ap (λ (k : SinkState). k.faults) same)) (put_fault served h gives c is))
  tells (Line other says) = put_line (status_of gives) other (λ u. at_end served h old new u gives c other) says.put says.leaves says.is
  tells (NoMemory other says) = put_line status.Memory other (λ u. at_memory served h old new u (no_put_fault served h gives c other)) says.put says.leaves says.is

module _ (request : Request) (old new : Outside) (answer : Status) (s : Serves (request_script request) old new answer) where
  reached : Reached (Ends (is_served request) (most_reads request) (most_writes request)) nothing_yet old s.mid s.gives
  reached = along reasons _ nothing_yet (request_script request) old s.mid s.gives (request_ends request) s.calls

  pub counts : CountsTell old new answer × UsageOnly (is_served request) answer × Unchanged old new answer
  counts = tells (is_served request) reached.now s.gives old s.mid new answer reached.holds.2 reached.ties s.files s.out s.report

  pub few : FewCalls request old new
  few = record {
    calls =
        let count : length new.files.calls ≡ length s.mid.files.calls = ap (λ (f : FilesState). length f.calls) s.files in
        omega (arith, count, reached.ties.calls, reached.holds.0, reached.holds.1);
    held = λ none. ap (λ (f : FilesState). f.held) s.files ∙ reached.ties.held (omega (arith, none, reached.holds.1));
  }

-- ---- the answer where nothing failed

abbrev Way : Steps (Unit {0}) → Held → Outside → Outside → Status → Type 0
Way script held old new answer = (answer ≡ status.Memory) ⊎ plain.Answers (answer_on script held) old new answer

-- the line of what the script gave
gave_line : (script : Steps (Unit {0})) (held : Held) (old mid new : Outside) (gives : Result (Unit {0}) Status) (answer : Status) → performing.Gave (perform script held) old mid gives → new.files ≡ mid.files → new.out ≡ mid.out
    → answer ≡ status_of gives → new.err ≡ with_text (line_of (status_of gives)) mid.err → plain.Answers (answer_on script held) old new answer
gave_line script held old mid new gives answer g files out is err =
    let p = perform script held in
    let same : status_of gives ≡ status_of p.gives = ap status_of g.gives in
    record {
      status = is ∙ same;
      out = out ∙ g.out;
      err = err ∙ ap (λ (s : Status). with_text (line_of s) mid.err) same ∙ ap (with_text (line_of (status_of p.gives))) g.err ∙ with_text-append old.err p.err (line_of (status_of p.gives));
      files = ap (λ (f : FilesState). f.held) files ∙ g.files;
    }

no_fault : (old new : SinkState) (text : List ℕ) → new.faults ≡ old.faults → TakesPrefix old text with_fault new → ⊥
no_fault old new text same p = omega (arith, same, faults_then old new text with_fault 1 (λ k. refl) p)

module _ (script : Steps (Unit {0})) (held : Held) (old mid new : Outside) (gives : Result (Unit {0}) Status) (answer : Status) (files : new.files ≡ mid.files) (out : new.out ≡ mid.out) (quiet : new.err.faults ≡ mid.err.faults) where
  memory_line : (put : Putting) → PuttingLeaves mid.err (line_of status.Memory) put new.err → answer ≡ after_line status.Memory put → answer ≡ status.Memory
  memory_line putting.Done l is = is
  memory_line putting.Failed l is = absurd (no_fault mid.err new.err _ quiet l)
  memory_line putting.Memory l is = is

  its_line : performing.Gave (perform script held) old mid gives → (put : Putting) → PuttingLeaves mid.err (line_of (status_of gives)) put new.err → answer ≡ after_line (status_of gives) put → Way script held old new answer
  its_line g putting.Done l is = inr (gave_line script held old mid new gives answer g files out is l)
  its_line g putting.Failed l is = absurd (no_fault mid.err new.err _ quiet l)
  its_line g putting.Memory l is = inl is

  gave : performing.Gave (perform script held) old mid gives → Reports (status_of gives) mid.err new.err answer → Way script held old new answer
  gave g (Silent is same a) = inr (gave_line script held old mid new gives answer g files out (a ∙ sym is) (same ∙ sym (ap (λ (s : Status). with_text (line_of s) mid.err) is ∙ with_text-nil mid.err)))
  gave g (Line other says) = its_line g says.put says.leaves says.is
  gave g (NoMemory other says) = inl (memory_line says.put says.leaves says.is)

  broke : gives ≡ Err status.Memory → Reports (status_of gives) mid.err new.err answer → answer ≡ status.Memory
  broke m r = by_line (subst (λ (g : Result (Unit {0}) Status). Reports (status_of g) mid.err new.err answer) m r)
    where
      by_line : Reports status.Memory mid.err new.err answer → answer ≡ status.Memory
      by_line (Silent is same a) = absurd (cc (is))
      by_line (Line other says) = memory_line says.put says.leaves says.is
      by_line (NoMemory other says) = memory_line says.put says.leaves says.is

line_rises : (s : Status) (old new : SinkState) (put : Putting) → PuttingLeaves old (line_of s) put new → old.faults ≤ new.faults
line_rises s old new putting.Done l = omega (arith, ap (λ (k : SinkState). k.faults) l)
line_rises s old new putting.Failed l = omega (arith, faults_then old new (line_of s) with_fault 1 (λ k. refl) l)
line_rises s old new putting.Memory l = omega (arith, faults_then old new (line_of s) with_want 0 (λ k. omega arith) l)

-- what the report leaves of the error stream's count
report_rises : (wanted : Status) (old new : SinkState) (answer : Status) → Reports wanted old new answer → old.faults ≤ new.faults
report_rises wanted old new answer (Silent is same a) = omega (arith, ap (λ (k : SinkState). k.faults) same)
report_rises wanted old new answer (Line other says) = line_rises wanted old new says.put says.leaves
report_rises wanted old new answer (NoMemory other says) = line_rises status.Memory old new says.put says.leaves

pub answered : (request : Request) (old new : Outside) (answer : Status) → Serves (request_script request) old new answer → Answered (request_script request) old new answer
answered request old new answer s held tells c =
    let script = request_script request in
    let up : Rises old s.mid = rises reasons script old s.mid s.gives s.calls in
    let on = report_rises (status_of s.gives) s.mid.err new.err answer s.report in
    let files : faults_of new.files ≡ faults_of s.mid.files = ap faults_of s.files in
    let outs : new.out.faults ≡ s.mid.out.faults = ap (λ (k : SinkState). k.faults) s.out in
    let calm_so_far : IsCalm old s.mid = record { files = omega (arith, c.files, files); out = omega (arith, c.out, outs); err = omega (arith, c.err, up.err, on) } in
    let quiet : new.err.faults ≡ s.mid.err.faults = omega (arith, c.err, up.err, on) in
    elim (calm reasons script held old s.mid s.gives (request_wide request) s.calls tells calm_so_far) [
      | inl m ↦ inl (broke script held old s.mid new s.gives answer s.files s.out quiet m s.report)
      | inr g ↦ gave script held old s.mid new s.gives answer s.files s.out quiet g s.report
    ]
