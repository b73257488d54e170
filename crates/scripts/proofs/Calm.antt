-- What a script gives where no call fails.
use Rattle.std.proofs.Common.{◌≡◌, ◌∙◌, ◌⊎◌, inl, inr, ℕ, ◌+◌, ◌≤◌, true, false, List, [], ◌++◌, take, Option, Some, None, Result, Ok, Err, refl, sym, ap, subst, arith}
use Rattle.std.specs.FinMap.{get}
use Rattle.std.specs.Option.{option_map}
use Rattle.files.specs.FilesState.{FilesState, IsFound, faults_of}
use Rattle.journal.specs.Journal as journal
use Rattle.outside.specs.Held.{Held, stored}
use Rattle.sinks.specs.SinkState.{SinkState, with_text}
use Rattle.sinks.proofs.Texts.{with_text-nil, with_text-append}
use Rattle.scripts.specs.Following.{Reasons, Behind, Follows}
use Rattle.scripts.specs.History.{History, nothing_yet, Along, Ties, after}
use Rattle.scripts.specs.Outside.{Outside, Came, Gave, Wanted, Fell, Step}
use Rattle.scripts.specs.Performing as performing
use Rattle.scripts.specs.Performing.{Performed, IsCalm, IsWide, NeedsNoMore, looked, answer_on, held_after, out_of, err_of, perform}
use Rattle.scripts.specs.Script.{Script, End, Stop, Call, Ask, Read, Write, Put, ToOut, ToErr, Finding, Bytes, Absent, Failed, Answer}
use Rattle.scripts.proofs.Laws.{step_ties}

-- ---- counts never fall

always : {E A : Type 0} (w : Reasons E) (h : History) (s : Script E A) → Along w (λ n r. Unit {0}) h s
unfolding Along
always w h (End a) = (tt, tt)
always w h (Stop e) = (tt, tt)
always w h (Call a rest) = (tt, tt, λ _. tt, λ x. always w (after a (Gave x) h) (rest x))

-- the counts of faults do not fall
pub record Rises (old new : Outside) : Type 0 where
  pub files : faults_of old.files ≤ faults_of new.files
  pub out : old.out.faults ≤ new.out.faults
  pub err : old.err.faults ≤ new.err.faults

step_files : (a : Ask) (came : Came (Answer a)) (old mid : Outside) → Step a old came mid → faults_of old.files ≤ faults_of mid.files
step_files a came old mid made = grows a came (step_ties nothing_yet a came old mid made)
  where
    grows : (a : Ask) (came : Came (Answer a)) → Ties nothing_yet (after a came nothing_yet) old mid → faults_of old.files ≤ faults_of mid.files
    grows (Read name most) came t = omega (arith, t.file_faults)
    grows (Write name bytes) came t = omega (arith, t.file_faults)
    grows (Put stream text) came t = omega (arith, t.file_faults)

pub step_rises : (a : Ask) (came : Came (Answer a)) (old mid : Outside) → Step a old came mid → Rises old mid
step_rises a came old mid made = let t = step_ties nothing_yet a came old mid made in record { files = step_files a came old mid made; out = t.out; err = t.err }

rises_same : (old new : Outside) → new ≡ old → Rises old new
rises_same old new same = record {
  files = subst (λ (o : Outside). faults_of old.files ≤ faults_of o.files) (sym same) (omega arith);
  out = subst (λ (o : Outside). old.out.faults ≤ o.out.faults) (sym same) (omega arith);
  err = subst (λ (o : Outside). old.err.faults ≤ o.err.faults) (sym same) (omega arith);
}

pub rises_on : (old mid new : Outside) → Rises old mid → Rises mid new → Rises old new
rises_on old mid new a b = record { files = omega (arith, a.files, b.files); out = omega (arith, a.out, b.out); err = omega (arith, a.err, b.err) }

pub rises : {E A : Type 0} (w : Reasons E) (s : Script E A) (old new : Outside) (result : Result A E) → Follows w s old new result → Rises old new
unfolding Follows
rises w (End a) old new result (inl b) = rises_same old new b.1
rises w (End a) old new result (inr e) = rises_same old new e.1
rises w (Stop e) old new result (inl b) = rises_same old new b.1
rises w (Stop e) old new result (inr f) = rises_same old new f.1
rises w (Call a rest) old new result (inl b) = rises_same old new b.1
rises w (Call a rest) old new result (inr g) = go g.came g.mid g.made g.then (λ x o f. rises w (rest x) o new result f)
  where
    go : (came : Came (Answer a)) (mid : Outside) → Step a old came mid → Behind w came (λ x. Follows w (rest x)) mid new result → ((x : Answer a) (o : Outside) → Follows w (rest x) o new result → Rises o new) → Rises old new
    go (Gave x) mid made f step = rises_on old mid new (step_rises a (Gave x) old mid made) (step x mid f)
    go Wanted mid made b step = rises_on old mid new (step_rises a Wanted old mid made) (rises_same mid new b.1)
    go Fell mid made b step = rises_on old mid new (step_rises a Fell old mid made) (rises_same mid new b.1)

-- ---- one call that does not fail

-- calm to the end is calm so far, and from here
calm_front : (old mid new : Outside) → Rises old mid → Rises mid new → IsCalm old new → IsCalm old mid
calm_front old mid new a b c = record { files = omega (arith, a.files, b.files, c.files); out = omega (arith, a.out, b.out, c.out); err = omega (arith, a.err, b.err, c.err) }

pub calm_rest : (old mid new : Outside) → Rises old mid → Rises mid new → IsCalm old new → IsCalm mid new
calm_rest old mid new a b c = record { files = omega (arith, a.files, b.files, c.files); out = omega (arith, a.out, b.out, c.out); err = omega (arith, a.err, b.err, c.err) }

-- what a call answers and leaves where it does not fail: a read perhaps less than the whole file
pub record Calmly {E A : Type 0} (held : Held) (a : Ask) (rest : Answer a → Script E A) (x : Answer a) (old mid : Outside) : Type 0 where
  pub goes : rest x ≡ rest (answer_on held a)
  pub files : mid.files.held ≡ Some (held_after held a)
  pub out : mid.out ≡ with_text (out_of a) old.out
  pub err : mid.err ≡ with_text (err_of a) old.err

untouched : (old new : SinkState) → new ≡ old → new ≡ with_text [] old
untouched old new same = same ∙ sym (with_text-nil old)

found_bytes : {E A : Type 0} (most : ℕ) (there : Option (List ℕ)) (bytes : List ℕ) (rest : Finding → Script E A) → option_map (take most) there ≡ Some bytes → ((all : List ℕ) → rest (Bytes (take most all)) ≡ rest (Bytes all)) → rest (Bytes bytes) ≡ rest (looked there)
found_bytes most None bytes rest e wide = absurd (cc (e))
found_bytes most (Some all) bytes rest e wide = let same : take most all ≡ bytes = cc (e) in ap (λ (b : List ℕ). rest (Bytes b)) (sym same) ∙ wide all

found_none : {E A : Type 0} (there : Option (List ℕ)) (rest : Finding → Script E A) → there ≡ None → rest Absent ≡ rest (looked there)
found_none None rest e = refl
found_none (Some all) rest e = absurd (cc (e))

-- a count that rose at a failed call
rose : (n a b : ℕ) → n + 0 ≡ a + 1 → n ≡ a → ⊥
rose n a b e same = omega (arith, e, same)

calmly : {E A : Type 0} (held : Held) (a : Ask) (rest : Answer a → Script E A) (x : Answer a) (old mid : Outside) → old.files.held ≡ Some held → NeedsNoMore a rest → IsCalm old mid → Step a old (Gave x) mid → Calmly held a rest x old mid
calmly held (Read name most) rest (Bytes bytes) old mid tells wide c made = record {
  goes = found_bytes most (get held name) bytes rest ((subst (λ t. IsFound t name most (journal.Bytes bytes)) tells made.0.0).1) wide;
  files = ap (λ (f : FilesState). f.held) made.0.1 ∙ tells;
  out = untouched old.out mid.out made.1;
  err = untouched old.err mid.err made.2;
}
calmly held (Read name most) rest Absent old mid tells wide c made = record {
  goes = found_none (get held name) rest (subst (λ t. IsFound t name most journal.Absent) tells made.0.0);
  files = ap (λ (f : FilesState). f.held) made.0.1 ∙ tells;
  out = untouched old.out mid.out made.1;
  err = untouched old.err mid.err made.2;
}
calmly held (Read name most) rest Failed old mid tells wide c made = let t = step_ties nothing_yet (Read name most) (Gave Failed) old mid made in absurd (omega (arith, t.file_faults, c.files))
calmly held (Write name bytes) rest true old mid tells wide c made = record {
  goes = refl;
  files = made.0.0 ∙ ap (stored name bytes) tells;
  out = untouched old.out mid.out made.1;
  err = untouched old.err mid.err made.2;
}
calmly held (Write name bytes) rest false old mid tells wide c made = let t = step_ties nothing_yet (Write name bytes) (Gave false) old mid made in absurd (omega (arith, t.file_faults, c.files))
calmly held (Put ToOut text) rest x old mid tells wide c made = record {
  goes = refl;
  files = ap (λ (f : FilesState). f.held) made.0 ∙ tells;
  out = made.1;
  err = untouched old.err mid.err made.2;
}
calmly held (Put ToErr text) rest x old mid tells wide c made = record {
  goes = refl;
  files = ap (λ (f : FilesState). f.held) made.0 ∙ tells;
  out = untouched old.out mid.out made.1;
  err = made.2;
}

no_fall : (a : Ask) (old mid : Outside) → IsCalm old mid → Step a old Fell mid → ⊥
no_fall (Read name most) old mid c made = made.0
no_fall (Write name bytes) old mid c made = made.0
no_fall (Put ToOut text) old mid c made = let f : mid.out.faults ≡ old.out.faults + 1 = ap (λ (s : SinkState). s.faults) (made.1.now) in omega (arith, f, c.out)
no_fall (Put ToErr text) old mid c made = let f : mid.err.faults ≡ old.err.faults + 1 = ap (λ (s : SinkState). s.faults) (made.2.now) in omega (arith, f, c.err)

-- ---- the law

module _ {E A : Type 0} (w : Reasons E) (new : Outside) (result : Result A E) where
  abbrev pub Way : Performed E A → Outside → Type 0
  Way p old = (result ≡ Err w.memory) ⊎ performing.Gave p old new result

  at_end : (held : Held) (wanted : Result A E) (old : Outside) → old.files.held ≡ Some held → result ≡ wanted → new ≡ old → performing.Gave (record { gives = wanted; out = []; err = []; files = held }) old new result
  at_end held wanted old tells is same = record {
    gives = is;
    out = untouched old.out new.out (ap (λ (o : Outside). o.out) same);
    err = untouched old.err new.err (ap (λ (o : Outside). o.err) same);
    files = ap (λ (o : Outside). o.files.held) same ∙ tells;
  }

  -- what was given after a call, and the call's part
  more_given : (p : Performed E A) (more_out more_err : List ℕ) (old mid : Outside) → mid.out ≡ with_text more_out old.out → mid.err ≡ with_text more_err old.err → Way p mid → Way (record p { out = more_out ++ p.out; err = more_err ++ p.err }) old
  more_given p more_out more_err old mid out err (inl m) = inl m
  more_given p more_out more_err old mid out err (inr g) = inr (record {
    gives = g.gives;
    out = g.out ∙ ap (with_text p.out) out ∙ with_text-append old.out more_out p.out;
    err = g.err ∙ ap (with_text p.err) err ∙ with_text-append old.err more_err p.err;
    files = g.files;
  })

-- Where the files tell what they hold and no call failed, calls that follow a script give what it gives, performed on that; or memory was wanted.
pub calm : {E A : Type 0} (w : Reasons E) (s : Script E A) (held : Held) (old new : Outside) (result : Result A E) → IsWide s → Follows w s old new result → old.files.held ≡ Some held → IsCalm old new → Way w new result (perform s held) old
unfolding Follows perform IsWide
calm w (End a) held old new result wide (inl b) tells c = inl b.0
calm w (End a) held old new result wide (inr e) tells c = inr (at_end w new result held (Ok a) old tells e.0 e.1)
calm w (Stop e) held old new result wide (inl b) tells c = inl b.0
calm w (Stop e) held old new result wide (inr f) tells c = inr (at_end w new result held (Err e) old tells f.0 f.1)
calm w (Call a rest) held old new result wide (inl b) tells c = inl b.0
calm {A = A} w (Call a rest) held old new result wide (inr g) tells c =
    go g.came g.mid g.made g.then (λ x o next f t d. calm w (rest x) next o new result (wide.1 x) f t d)
  where
    go : (came : Came (Answer a)) (mid : Outside) → Step a old came mid → Behind w came (λ x. Follows w (rest x)) mid new result
        → ((x : Answer a) (o : Outside) (next : Held) → Follows w (rest x) o new result → o.files.held ≡ Some next → IsCalm o new → Way w new result (perform (rest x) next) o)
        → Way w new result (perform (Call a rest) held) old
    go (Gave x) mid made f step =
        let up = step_rises a (Gave x) old mid made in
        let on = rises w (rest x) mid new result f in
        let p = calmly held a rest x old mid tells wide.0 (calm_front old mid new up on c) made in
        let then = step x mid (held_after held a) f p.files (calm_rest old mid new up on c) in
        more_given w new result (perform (rest (answer_on held a)) (held_after held a)) (out_of a) (err_of a) old mid p.out p.err (subst (λ t. Way w new result (perform t (held_after held a)) mid) p.goes then)
    go Wanted mid made b step = inl b.0
    go Fell mid made b step =
        let up = step_rises a Fell old mid made in
        absurd (no_fall a old mid (calm_front old mid new up (rises_same mid new b.1) c) made)
