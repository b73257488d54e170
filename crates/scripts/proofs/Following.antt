-- How the calls of parts are calls of the whole script.
use Rattle.std.proofs.Common.{◌≡◌, inl, inr, ℕ, Bool, List, Result, Ok, Err, refl, sym, ap, subst}
use Rattle.files.specs.FilesState.{FilesState}
use Rattle.sinks.specs.SinkState.{SinkState}
use Rattle.scripts.specs.Following.{Reasons, Behind, Goes, Follows}
use Rattle.scripts.specs.Outside.{Outside, seen, Came, Gave, Wanted, Fell, Reads, Writes, Lands, Step}
use Rattle.scripts.specs.Script.{Script, End, Stop, Call, Read, Write, Put, ToOut, ToErr, Finding, Answer, ◌>>=◌, ending}

-- memory may be wanted before the first call
pub breaks : {E A : Type 0} (w : Reasons E) (s : Script E A) (o : Outside) → Follows w s o o (Err w.memory)
unfolding Follows
breaks w (End a) o = inl (refl, refl)
breaks w (Stop e) o = inl (refl, refl)
breaks w (Call a rest) o = inl (refl, refl)

-- The first script came to its end, and then the second was followed.
pub follows_on : {E A B : Type 0} (w : Reasons E) (s : Script E A) (k : A → Script E B) (a : A) (old mid new : Outside) (result : Result B E)
    → Follows w s old mid (Ok a) → Follows w (k a) mid new result → Follows w (s >>= k) old new result
unfolding Follows ◌>>=◌
follows_on w (End b) k a old mid new result (inl h) f = absurd (cc (h.0))
follows_on w (End b) k a old mid new result (inr h) f =
    let same : b ≡ a = cc (h.0) in
    let P : _ → Type 0 = λ c. Follows w (k c) old new result in
    subst P (sym same) (subst (λ (o : Outside). Follows w (k a) o new result) h.1 f)
follows_on w (Stop e) k a old mid new result (inl h) f = absurd (cc (h.0))
follows_on w (Stop e) k a old mid new result (inr h) f = absurd (cc (h.0))
follows_on w (Call q rest) k a old mid new result (inl b) f = absurd (cc (b.0))
follows_on w (Call q rest) k a old mid new result (inr g) f = inr (go g.came g.mid g.made g.then (λ x o h. follows_on w (rest x) k a o mid new result h f))
  where
    go : (came : Came (Answer q)) (o : Outside) → Step q old came o → Behind w came (λ x. Follows w (rest x)) o mid (Ok a)
        → ((x : Answer q) (o : Outside) → Follows w (rest x) o mid (Ok a) → Follows w (rest x >>= k) o new result)
        → Goes w (Step q) (λ x. Follows w (rest x >>= k)) old new result
    go (Gave x) o made h step = record { came = Gave x; mid = o; made = made; then = step x o h }
    go Wanted o made b step = absurd (cc (b.0))
    go Fell o made b step = absurd (cc (b.0))

-- The first script ended early, or memory was wanted in it.
pub follows_err : {E A B : Type 0} (w : Reasons E) (s : Script E A) (k : A → Script E B) (old new : Outside) (why : E) → Follows w s old new (Err why) → Follows w (s >>= k) old new (Err why)
unfolding Follows ◌>>=◌
follows_err w (End a) k old new why (inl h) =
    let none : why ≡ w.memory = cc (h.0) in
    subst (λ o. Follows w (k a) old o (Err why)) (sym h.1) (subst (λ e. Follows w (k a) old old (Err e)) (sym none) (breaks w (k a) old))
follows_err w (End a) k old new why (inr h) = absurd (cc (h.0))
follows_err w (Stop e) k old new why (inl h) = inl (cc (h.0), h.1)
follows_err w (Stop e) k old new why (inr h) = inr (cc (h.0), h.1)
follows_err w (Call q rest) k old new why (inl b) = inl (cc (b.0), b.1)
follows_err w (Call q rest) k old new why (inr g) = inr (go g.came g.mid g.made g.then (λ x o h. follows_err w (rest x) k o new why h))
  where
    go : (came : Came (Answer q)) (o : Outside) → Step q old came o → Behind w came (λ x. Follows w (rest x)) o new (Err why)
        → ((x : Answer q) (o : Outside) → Follows w (rest x) o new (Err why) → Follows w (rest x >>= k) o new (Err why))
        → Goes w (Step q) (λ x. Follows w (rest x >>= k)) old new (Err why)
    go (Gave x) o made h step = record { came = Gave x; mid = o; made = made; then = step x o h }
    go Wanted o made b step = record { came = Wanted; mid = o; made = made; then = (cc (b.0), b.1) }
    go Fell o made b step = record { came = Fell; mid = o; made = made; then = (cc (b.0), b.1) }

-- What `?` passes on: the error of a step, where the first script ended by it.
pub failed : {E A B : Type 0} (w : Reasons E) (s : Script E A) (k : A → Script E B) (old new : Outside) (e : E) (r : Result B E) → (x : E) × (r ≡ Err x) × (x ≡ e) → Follows w s old new (Err e) → Follows w (s >>= k) old new r
failed w s k old new e r (x, is, same) f =
    subst (λ o. Follows w (s >>= k) old new o) (sym is) (subst (λ y. Follows w (s >>= k) old new (Err y)) (sym same) (follows_err w s k old new e f))

-- or want of memory, between two calls
pub wanted : {E B : Type 0} (w : Reasons E) (s : Script E B) (o : Outside) (r : Result B E) → (x : E) × (r ≡ Err x) × (x ≡ w.memory) → Follows w s o o r
wanted w s o r (x, is, same) = subst (λ y. Follows w s o o y) (sym is) (subst (λ y. Follows w s o o (Err y)) (sym same) (breaks w s o))

-- ---- the end of a script

pub ends : {E A : Type 0} (w : Reasons E) (a : A) (o : Outside) → Follows w (End a) o o (Ok a)
unfolding Follows
ends w a o = inr (refl, refl)

pub stops : {E : Type 0} (A : Type 0) (w : Reasons E) (e why : E) (o : Outside) → why ≡ e → Follows {A = A} w (Stop e) o o (Err why)
unfolding Follows
stops A w e why o is = inr (ap (λ y. Err y) is, refl)

-- ---- one call, and the rest

pub reads : {E A : Type 0} (w : Reasons E) (name : List ℕ) (most : ℕ) (rest : Finding → Script E A) (files now : FilesState) (x : Finding) (out err : SinkState) (new : Outside) (result : Result A E)
    → Reads files name most (Gave x) now → Follows w (rest x) (seen now out err) new result → Follows w (Call (Read name most) rest) (seen files out err) new result
unfolding Follows
reads w name most rest files now x out err new result step f = inr (record { came = Gave x; mid = seen now out err; made = (step, refl, refl); then = f })

pub reads_none : {E A : Type 0} (w : Reasons E) (name : List ℕ) (most : ℕ) (rest : Finding → Script E A) (files now : FilesState) (out err : SinkState)
    → Reads files name most Wanted now → Follows w (Call (Read name most) rest) (seen files out err) (seen now out err) (Err w.memory)
unfolding Follows
reads_none w name most rest files now out err step = inr (record { came = Wanted; mid = seen now out err; made = (step, refl, refl); then = (refl, refl) })

pub writes : {E A : Type 0} (w : Reasons E) (name bytes : List ℕ) (rest : Bool → Script E A) (files now : FilesState) (x : Bool) (out err : SinkState) (new : Outside) (result : Result A E)
    → Writes files name bytes (Gave x) now → Follows w (rest x) (seen now out err) new result → Follows w (Call (Write name bytes) rest) (seen files out err) new result
unfolding Follows
writes w name bytes rest files now x out err new result step f = inr (record { came = Gave x; mid = seen now out err; made = (step, refl, refl); then = f })

pub writes_none : {E A : Type 0} (w : Reasons E) (name bytes : List ℕ) (rest : Bool → Script E A) (files now : FilesState) (out err : SinkState)
    → Writes files name bytes Wanted now → Follows w (Call (Write name bytes) rest) (seen files out err) (seen now out err) (Err w.memory)
unfolding Follows
writes_none w name bytes rest files now out err step = inr (record { came = Wanted; mid = seen now out err; made = (step, refl, refl); then = (refl, refl) })

pub puts_out : {E A : Type 0} (w : Reasons E) (text : List ℕ) (rest : Unit {0} → Script E A) (out now : SinkState) (files : FilesState) (err : SinkState) (new : Outside) (result : Result A E)
    → Lands out text (Gave tt) now → Follows w (rest tt) (seen files now err) new result → Follows w (Call (Put ToOut text) rest) (seen files out err) new result
unfolding Follows
puts_out w text rest out now files err new result step f = inr (record { came = Gave tt; mid = seen files now err; made = (refl, step, refl); then = f })

pub puts_out_wanted : {E A : Type 0} (w : Reasons E) (text : List ℕ) (rest : Unit {0} → Script E A) (out now : SinkState) (files : FilesState) (err : SinkState)
    → Lands out text Wanted now → Follows w (Call (Put ToOut text) rest) (seen files out err) (seen files now err) (Err w.memory)
unfolding Follows
puts_out_wanted w text rest out now files err step = inr (record { came = Wanted; mid = seen files now err; made = (refl, step, refl); then = (refl, refl) })

pub puts_out_fell : {E A : Type 0} (w : Reasons E) (text : List ℕ) (rest : Unit {0} → Script E A) (out now : SinkState) (files : FilesState) (err : SinkState)
    → Lands out text Fell now → Follows w (Call (Put ToOut text) rest) (seen files out err) (seen files now err) (Err w.put_fault)
unfolding Follows
puts_out_fell w text rest out now files err step = inr (record { came = Fell; mid = seen files now err; made = (refl, step, refl); then = (refl, refl) })

pub puts_err : {E A : Type 0} (w : Reasons E) (text : List ℕ) (rest : Unit {0} → Script E A) (err now : SinkState) (files : FilesState) (out : SinkState) (new : Outside) (result : Result A E)
    → Lands err text (Gave tt) now → Follows w (rest tt) (seen files out now) new result → Follows w (Call (Put ToErr text) rest) (seen files out err) new result
unfolding Follows
puts_err w text rest err now files out new result step f = inr (record { came = Gave tt; mid = seen files out now; made = (refl, refl, step); then = f })

pub puts_err_wanted : {E A : Type 0} (w : Reasons E) (text : List ℕ) (rest : Unit {0} → Script E A) (err now : SinkState) (files : FilesState) (out : SinkState)
    → Lands err text Wanted now → Follows w (Call (Put ToErr text) rest) (seen files out err) (seen files out now) (Err w.memory)
unfolding Follows
puts_err_wanted w text rest err now files out step = inr (record { came = Wanted; mid = seen files out now; made = (refl, refl, step); then = (refl, refl) })

pub puts_err_fell : {E A : Type 0} (w : Reasons E) (text : List ℕ) (rest : Unit {0} → Script E A) (err now : SinkState) (files : FilesState) (out : SinkState)
    → Lands err text Fell now → Follows w (Call (Put ToErr text) rest) (seen files out err) (seen files out now) (Err w.put_fault)
unfolding Follows
puts_err_fell w text rest err now files out step = inr (record { came = Fell; mid = seen files out now; made = (refl, refl, step); then = (refl, refl) })

-- ---- a script with what comes after each of its ends

-- It came to its end.
pub ending_ok : {E A B : Type 0} (w : Reasons E) (s : Script E A) (done : A → Script E B) (stopped : E → Script E B) (a : A) (old mid new : Outside) (result : Result B E)
    → Follows w s old mid (Ok a) → Follows w (done a) mid new result → Follows w (ending s done stopped) old new result
unfolding Follows ending
ending_ok w (End b) done stopped a old mid new result (inl h) f = absurd (cc (h.0))
ending_ok w (End b) done stopped a old mid new result (inr h) f =
    let same : b ≡ a = cc (h.0) in
    let P : _ → Type 0 = λ c. Follows w (done c) old new result in
    subst P (sym same) (subst (λ (o : Outside). Follows w (done a) o new result) h.1 f)
ending_ok w (Stop e) done stopped a old mid new result (inl h) f = absurd (cc (h.0))
ending_ok w (Stop e) done stopped a old mid new result (inr h) f = absurd (cc (h.0))
ending_ok w (Call q rest) done stopped a old mid new result (inl b) f = absurd (cc (b.0))
ending_ok w (Call q rest) done stopped a old mid new result (inr g) f = inr (go g.came g.mid g.made g.then (λ x o h. ending_ok w (rest x) done stopped a o mid new result h f))
  where
    go : (came : Came (Answer q)) (o : Outside) → Step q old came o → Behind w came (λ x. Follows w (rest x)) o mid (Ok a)
        → ((x : Answer q) (o : Outside) → Follows w (rest x) o mid (Ok a) → Follows w (ending (rest x) done stopped) o new result)
        → Goes w (Step q) (λ x. Follows w (ending (rest x) done stopped)) old new result
    go (Gave x) o made h step = record { came = Gave x; mid = o; made = made; then = step x o h }
    go Wanted o made b step = absurd (cc (b.0))
    go Fell o made b step = absurd (cc (b.0))

-- How a script that ended early goes on: memory was wanted, or a put failed, and then no more is done; or what comes after that end.
pub data Early {E B : Type 0} (w : Reasons E) (whole : Script E B) (after : Script E B) (old mid : Outside) (why : E) : Type 0 where
  Broke : why ≡ w.memory → Follows w whole old mid (Err w.memory) → Early w whole after old mid why
  Fallen : why ≡ w.put_fault → Follows w whole old mid (Err w.put_fault) → Early w whole after old mid why
  Stopped : ((new : Outside) (result : Result B E) → Follows w after mid new result → Follows w whole old new result) → Early w whole after old mid why

pub ending_err : {E A B : Type 0} (w : Reasons E) (s : Script E A) (done : A → Script E B) (stopped : E → Script E B) (why : E) (old mid : Outside)
    → Follows w s old mid (Err why) → Early w (ending s done stopped) (stopped why) old mid why
unfolding Follows ending
ending_err w (End a) done stopped why old mid (inl h) = Broke (cc (h.0)) (subst (λ (o : Outside). Follows w (done a) old o (Err w.memory)) (sym h.1) (breaks w (done a) old))
ending_err w (End a) done stopped why old mid (inr h) = absurd (cc (h.0))
ending_err w (Stop e) done stopped why old mid (inl h) = Broke (cc (h.0)) (subst (λ (o : Outside). Follows w (stopped e) old o (Err w.memory)) (sym h.1) (breaks w (stopped e) old))
ending_err w (Stop e) done stopped why old mid (inr h) =
    let same : why ≡ e = cc (h.0) in
    Stopped (λ new result f. subst (λ y. Follows w (stopped y) old new result) same (subst (λ (o : Outside). Follows w (stopped why) o new result) h.1 f))
ending_err w (Call q rest) done stopped why old mid (inl b) = Broke (cc (b.0)) (inl (refl, b.1))
ending_err {E = E} {B = B} w (Call q rest) done stopped why old mid (inr g) = go g.came g.mid g.made g.then (λ x o h. ending_err w (rest x) done stopped why o mid h)
  where
    more : (x : Answer q) (o : Outside) → Step q old (Gave x) o → Early w (ending (rest x) done stopped) (stopped why) o mid why → Early w (Call q (λ x. ending (rest x) done stopped)) (stopped why) old mid why
    more x o made (Broke is f) = Broke is (inr (record { came = Gave x; mid = o; made = made; then = f }))
    more x o made (Fallen is f) = Fallen is (inr (record { came = Gave x; mid = o; made = made; then = f }))
    more x o made (Stopped on) = Stopped (λ new result f. inr (record { came = Gave x; mid = o; made = made; then = on new result f }))

    go : (came : Came (Answer q)) (o : Outside) → Step q old came o → Behind w came (λ x. Follows w (rest x)) o mid (Err why)
        → ((x : Answer q) (o : Outside) → Follows w (rest x) o mid (Err why) → Early w (ending (rest x) done stopped) (stopped why) o mid why)
        → Early w (Call q (λ x. ending (rest x) done stopped)) (stopped why) old mid why
    go (Gave x) o made h step = more x o made (step x o h)
    go Wanted o made b step = Broke (cc (b.0)) (inr (record { came = Wanted; mid = o; made = made; then = (refl, b.1) }))
    go Fell o made b step = Fallen (cc (b.0)) (inr (record { came = Fell; mid = o; made = made; then = (refl, b.1) }))
