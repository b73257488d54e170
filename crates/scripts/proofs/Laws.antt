-- What the calls that follow a script leave, by its history.
use Rattle.std.proofs.Common.{◌≡◌, ◌∙◌, inl, inr, ℕ, ◌+◌, ◌≤◌, true, false, List, [], ◌∷◌, ◌++◌, length, Result, Ok, Err, refl, sym, ap, subst, cond, arith, length-append}
use Rattle.std.proofs.lemmas.List.Sums.{sum_by-append}
use Rattle.files.specs.FilesState.{FilesState, ReadStep, WriteStep, faults_of}
use Rattle.journal.specs.Counted.{faults_in, is_fault}
use Rattle.journal.specs.Journal as journal
use Rattle.journal.specs.Journal.{Call as Called, Asked, Stored}
use Rattle.journal.specs.declared.journal.Done.{Done}
use Rattle.sinks.specs.SinkState.{SinkState}
use Rattle.scripts.specs.Following.{Reasons, Behind, Follows}
use Rattle.scripts.specs.History.{History, Along, AlongBehind, Ties, Reached, MayFall, after, put_faults_of}
use Rattle.scripts.specs.Outside.{Outside, Came, Gave, Wanted, Fell, Lands, Step}
use Rattle.scripts.specs.Script.{Script, End, Stop, Call, Ask, Read, Write, Put, ToOut, ToErr, Bytes, Absent, Failed, Answer, ◌>>=◌}

-- ---- ties

pub ties_same : (h : History) (old new : Outside) → new ≡ old → Ties h h old new
ties_same h old new same = record {
  calls = ap (λ (o : Outside). length o.files.calls + (h.reads + h.writes)) same;
  file_faults = ap (λ (o : Outside). faults_of o.files + h.file_faults) same;
  put_faults = ap (λ (o : Outside). o.out.faults + o.err.faults + h.put_faults) same;
  out = subst (λ (o : Outside). old.out.faults ≤ o.out.faults) (sym same) (omega arith);
  err = subst (λ (o : Outside). old.err.faults ≤ o.err.faults) (sym same) (omega arith);
  writes = omega arith;
  held = λ e. ap (λ (o : Outside). o.files.held) same;
}

pub ties_on : (h m n : History) (old mid new : Outside) → Ties h m old mid → Ties m n mid new → Ties h n old new
ties_on h m n old mid new t u = record {
  calls = omega (arith, t.calls, u.calls);
  file_faults = omega (arith, t.file_faults, u.file_faults);
  put_faults = omega (arith, t.put_faults, u.put_faults);
  out = omega (arith, t.out, u.out);
  err = omega (arith, t.err, u.err);
  writes = omega (arith, t.writes, u.writes);
  held = λ e.
      let first : m.writes ≡ h.writes = omega (arith, t.writes, u.writes, e) in
      let second : n.writes ≡ m.writes = omega (arith, t.writes, u.writes, e) in
      u.held second ∙ t.held first;
}

-- ---- one call

faults_in-more : (calls : List Called) (c : Called) → faults_in (calls ++ c ∷ []) ≡ faults_in calls + faults_in (c ∷ [])
faults_in-more calls c = sum_by-append (λ x. cond (is_fault x) 1 0) calls (c ∷ [])

length-more : (calls : List Called) (c : Called) → length (calls ++ c ∷ []) ≡ length calls + 1
length-more calls c = omega (arith, length-append calls (c ∷ []))

read_ties : (h : History) (old mid : Outside) (name : List ℕ) (most : ℕ) (found : journal.Found) (n : ℕ) → faults_in (Asked name most found ∷ []) ≡ n
    → ReadStep old.files name most found mid.files → mid.out ≡ old.out → mid.err ≡ old.err → Ties h (record h { reads = h.reads + 1; file_faults = h.file_faults + n }) old mid
read_ties h old mid name most found n fault made out err =
    let c : Called = Asked name most found in
    let calls : mid.files.calls ≡ old.files.calls ++ c ∷ [] = ap (λ (f : FilesState). f.calls) made.1 in
    let long : length mid.files.calls ≡ length old.files.calls + 1 = ap (λ (l : List Called). length l) calls ∙ length-more old.files.calls c in
    let faults : faults_of mid.files ≡ faults_of old.files + n = ap faults_in calls ∙ faults_in-more old.files.calls c ∙ ap (λ k. faults_of old.files + k) fault in
    let out_same : mid.out.faults ≡ old.out.faults = ap (λ (s : SinkState). s.faults) out in
    let err_same : mid.err.faults ≡ old.err.faults = ap (λ (s : SinkState). s.faults) err in
    record {
      calls = omega (arith, long);
      file_faults = omega (arith, faults);
      put_faults = omega (arith, out_same, err_same);
      out = omega (arith, out_same);
      err = omega (arith, err_same);
      writes = omega arith;
      held = λ e. ap (λ (f : FilesState). f.held) made.1;
    }

write_ties : (h : History) (old mid : Outside) (name bytes : List ℕ) (answer : Done) (n : ℕ) → faults_in (Stored name bytes answer ∷ []) ≡ n
    → WriteStep old.files name bytes answer mid.files → mid.out ≡ old.out → mid.err ≡ old.err → Ties h (record h { writes = h.writes + 1; file_faults = h.file_faults + n }) old mid
write_ties h old mid name bytes answer n fault made out err =
    let c : Called = Stored name bytes answer in
    let calls : mid.files.calls ≡ old.files.calls ++ c ∷ [] = ap (λ (f : FilesState). f.calls) made.1 in
    let long : length mid.files.calls ≡ length old.files.calls + 1 = ap (λ (l : List Called). length l) calls ∙ length-more old.files.calls c in
    let faults : faults_of mid.files ≡ faults_of old.files + n = ap faults_in calls ∙ faults_in-more old.files.calls c ∙ ap (λ k. faults_of old.files + k) fault in
    let out_same : mid.out.faults ≡ old.out.faults = ap (λ (s : SinkState). s.faults) out in
    let err_same : mid.err.faults ≡ old.err.faults = ap (λ (s : SinkState). s.faults) err in
    record {
      calls = omega (arith, long);
      file_faults = omega (arith, faults);
      put_faults = omega (arith, out_same, err_same);
      out = omega (arith, out_same);
      err = omega (arith, err_same);
      writes = omega arith;
      held = λ e. absurd (omega (arith, e));
    }

put_ties : (h : History) (old mid : Outside) (n : ℕ) → mid.files ≡ old.files → mid.out.faults + mid.err.faults ≡ old.out.faults + old.err.faults + n → old.out.faults ≤ mid.out.faults → old.err.faults ≤ mid.err.faults
    → Ties h (record h { put_faults = h.put_faults + n }) old mid
put_ties h old mid n files faults out err = record {
  calls = ap (λ (f : FilesState). length f.calls + (h.reads + h.writes)) files;
  file_faults = ap (λ (f : FilesState). faults_of f + h.file_faults) files;
  put_faults = omega (arith, faults);
  out = out;
  err = err;
  writes = omega arith;
  held = λ e. ap (λ (f : FilesState). f.held) files;
}

-- how the count of a sink goes on
lands_faults : (old new : SinkState) (text : List ℕ) (came : Came (Unit {0})) → Lands old text came new → new.faults ≡ old.faults + put_faults_of came
lands_faults old new text (Gave x) h = ap (λ (s : SinkState). s.faults) h ∙ omega arith
lands_faults old new text Wanted (inl p) = ap (λ (s : SinkState). s.faults) p.now ∙ omega arith
lands_faults old new text Wanted (inr p) = ap (λ (s : SinkState). s.faults) p.now ∙ omega arith
lands_faults old new text Fell p = ap (λ (s : SinkState). s.faults) p.now

out_ties : (h : History) (old mid : Outside) (n : ℕ) → mid.files ≡ old.files → mid.out.faults ≡ old.out.faults + n → mid.err ≡ old.err → Ties h (record h { put_faults = h.put_faults + n }) old mid
out_ties h old mid n files out err =
    let err_same : mid.err.faults ≡ old.err.faults = ap (λ (s : SinkState). s.faults) err in
    put_ties h old mid n files (omega (arith, out, err_same)) (omega (arith, out)) (omega (arith, err_same))

err_ties : (h : History) (old mid : Outside) (n : ℕ) → mid.files ≡ old.files → mid.out ≡ old.out → mid.err.faults ≡ old.err.faults + n → Ties h (record h { put_faults = h.put_faults + n }) old mid
err_ties h old mid n files out err =
    let out_same : mid.out.faults ≡ old.out.faults = ap (λ (s : SinkState). s.faults) out in
    put_ties h old mid n files (omega (arith, err, out_same)) (omega (arith, out_same)) (omega (arith, err))

pub step_ties : (h : History) (a : Ask) (came : Came (Answer a)) (old mid : Outside) → Step a old came mid → Ties h (after a came h) old mid
step_ties h (Read name most) (Gave (Bytes bytes)) old mid made = read_ties h old mid name most _ 0 refl made.0 made.1 made.2
step_ties h (Read name most) (Gave Absent) old mid made = read_ties h old mid name most _ 0 refl made.0 made.1 made.2
step_ties h (Read name most) (Gave Failed) old mid made = read_ties h old mid name most _ 1 refl made.0 made.1 made.2
step_ties h (Read name most) Wanted old mid made = read_ties h old mid name most _ 0 refl made.0 made.1 made.2
step_ties h (Read name most) Fell old mid made = absurd (made.0)
step_ties h (Write name bytes) (Gave true) old mid made = write_ties h old mid name bytes _ 0 refl made.0 made.1 made.2
step_ties h (Write name bytes) (Gave false) old mid made = write_ties h old mid name bytes _ 1 refl made.0 made.1 made.2
step_ties h (Write name bytes) Wanted old mid made = write_ties h old mid name bytes _ 0 refl made.0 made.1 made.2
step_ties h (Write name bytes) Fell old mid made = absurd (made.0)
step_ties h (Put ToOut text) came old mid made = out_ties h old mid (put_faults_of came) made.0 (lands_faults old.out mid.out text came made.1) made.2
step_ties h (Put ToErr text) came old mid made = err_ties h old mid (put_faults_of came) made.0 made.1 (lands_faults old.err mid.err text came made.2)

-- a put alone ends everything where it fails
pub fell : (a : Ask) (old mid : Outside) → Step a old Fell mid → MayFall a
fell (Read name most) old mid made = made.0
fell (Write name bytes) old mid made = made.0
fell (Put stream text) old mid made = tt

-- ---- the law of histories

later : {E A : Type 0} (P : History → Result A E → Type 0) (h m : History) (old mid new : Outside) (result : Result A E) → Ties h m old mid → Reached P m mid new result → Reached P h old new result
later P h m old mid new result t r = record { now = r.now; holds = r.holds; ties = ties_on h m r.now old mid new t r.ties }

here : {E A : Type 0} (P : History → Result A E → Type 0) (h : History) (old new : Outside) (result wanted : Result A E) → P h wanted → result ≡ wanted → new ≡ old → Reached P h old new result
here P h old new result wanted p is same = record { now = h; holds = subst (λ r. P h r) (sym is) p; ties = ties_same h old new same }

-- Calls that follow a script reach an end of it, or a place where memory is wanted or a put fails, and the objects tell its history.
pub along : {E A : Type 0} (w : Reasons E) (P : History → Result A E → Type 0) (h : History) (s : Script E A) (old new : Outside) (result : Result A E) → Along w P h s → Follows w s old new result → Reached P h old new result
unfolding Along Follows
along w P h (End a) old new result p (inl b) = here P h old new result _ p.1 b.0 b.1
along w P h (End a) old new result p (inr e) = here P h old new result _ p.0 e.0 e.1
along w P h (Stop e) old new result p (inl b) = here P h old new result _ p.1 b.0 b.1
along w P h (Stop e) old new result p (inr f) = here P h old new result _ p.0 f.0 f.1
along w P h (Call a rest) old new result p (inl b) = here P h old new result _ p.0 b.0 b.1
along w P h (Call a rest) old new result p (inr g) = go g.came g.mid g.made g.then (λ x o f. along w P (after a (Gave x) h) (rest x) o new result (p.3 x) f)
  where
    go : (came : Came (Answer a)) (mid : Outside) → Step a old came mid → Behind w came (λ x. Follows w (rest x)) mid new result
        → ((x : Answer a) (o : Outside) → Follows w (rest x) o new result → Reached P (after a (Gave x) h) o new result) → Reached P h old new result
    go (Gave x) mid made f step = later P h (after a (Gave x) h) old mid new result (step_ties h a (Gave x) old mid made) (step x mid f)
    go Wanted mid made b step = later P h (after a Wanted h) old mid new result (step_ties h a Wanted old mid made) (here P (after a Wanted h) mid new result _ p.1 b.0 b.1)
    go Fell mid made b step = later P h (after a Fell h) old mid new result (step_ties h a Fell old mid made) (here P (after a Fell h) mid new result _ (p.2 (fell a old mid made)) b.0 b.1)

-- two scripts, one after the other
pub along_then : {E A B : Type 0} (w : Reasons E) (P : History → Result B E → Type 0) (h : History) (s : Script E A) (k : A → Script E B) → Along w (λ n r. AlongBehind w P k n r) h s → Along w P h (s >>= k)
unfolding Along ◌>>=◌
along_then w P h (End a) k p = p.0
along_then w P h (Stop e) k p = p
along_then w P h (Call a rest) k p = (p.0, p.1, p.2, λ x. along_then w P (after a (Gave x) h) (rest x) k (p.3 x))

-- a script, and what comes after each of its ends
abbrev pub AlongEnding : {E A B : Type 0} → Reasons E → (History → Result B E → Type 0) → (A → Script E B) → (E → Script E B) → History → Result A E → Type 0
AlongEnding w P done stopped h (Ok a) = Along w P h (done a)
AlongEnding w P done stopped h (Err e) = Along w P h (stopped e)
