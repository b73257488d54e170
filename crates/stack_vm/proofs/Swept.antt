-- The pass over a function's code, one instruction after the other, and what it means to get through.
use Rattle.std.proofs.Common.{◌≡◌, ℕ, ◌+◌, ◌-◌, ◌*◌, ◌^◌, ◌<◌, ◌≤◌, List, [], ◌∷◌, ◌++◌, length, drop, replicate, slice_index, slice_set, Option, Some, None, Bool, true, false, eqb, ltb, not, ◌&&◌, ◌||◌, refl, arith, sym, ◌∙◌, ap, subst, inl, inr, append_assoc, append-nil, get_or-set_other, get_or-set_same, length-set, unwrap_or, if◌then◌else◌}
use Rattle.std.specs.Prelude.{max, Ok}
use Rattle.std.specs.List.{AllByRecursion}
use Rattle.std.proofs.lemmas.Bool.{cases_eq, cases_lt, eq-eqb, ne_eqb, le-ltb}
use Rattle.std.proofs.lemmas.List.{drop_all, length-replicate}
use Rattle.object_format.specs.Image.{LinkedFn}
use Rattle.object_format.specs.Reading.{code_fault, or_later}
use Rattle.object_format.specs.declared.fault.What.{What}
use Rattle.stack_vm.specs.Operation.{size, IsThere, placed, operations}
use Rattle.stack_vm.specs.Heights.{taken, left_by, jumps_to, handed_on, brings, first_at, as_number, Shows, Before, here, next, reached, at_start, heights, heights_of, greatest}
use Rattle.stack_vm.specs.Faults.{is_return, may_end, misses, brings_other, is_crossed, height_at, word_at, fault_if, is_empty, code_faults, Judges}
use Rattle.stack_vm.specs.Sweep.{Grows, Arrives, Leads, Agrees, Settled, Swept}
use Rattle.stack_vm.specs.declared.operation.Operation.{Operation}
use Rattle.stack_vm.specs.declared.operation.Operation.TheVariants.{Jump, Return, Trap}
use Rattle.stack_vm.specs.declared.operation.Placed.{Placed}
use Rattle.stack_vm.specs.declared.sweeping.Way.{Way}
use Rattle.stack_vm.proofs.Listing.{Front, whole_front, there_one}
use Rattle.stack_vm.proofs.Measuring.{reached_more, heights_more, greatest_more, here_is, here_low, shown_higher}
use Rattle.stack_vm.proofs.Offsets.{all-append, heights-listed, shows_nothing}
use Rattle.stack_vm.proofs.Showing.{or_else, first_at-append, added, the_same, not_same, brought_set, brought_same}
use Rattle.stack_vm.proofs.Soundness.{Kept}

-- ---- what is noted

pub noted_ahead : (old : List ℕ) (offset to left : ℕ) → to < length old → offset < to → slice_index old to ≡ 4294967295 → Agrees offset (Some to) left old (slice_set old to left)
noted_ahead old offset to left there ahead free = record {
  grows = record {
    long = length-set old to left;
    kept = λ t lt other. elim (cases_eq t to) [ inl e ↦ absurd (other (rw e free)) | inr n ↦ get_or-set_other old to t left 0 n ];
  };
  shown = λ pairs limit b low small. brought_set pairs old to left limit b there free low small;
  behind = λ t le. get_or-set_other old to t left 0 (λ e. absurd (omega (arith, le, ahead, e)));
  there = λ t is.
      let same : to ≡ t = cc in
      subst (λ (k : ℕ). (k < length (slice_set old to left)) × (slice_index (slice_set old to left) k ≡ left)) same (omega (arith, length-set old to left, there), get_or-set_same old to left 0 there);
}

pub noted_there : (old : List ℕ) (offset to left : ℕ) → to < length old → slice_index old to ≡ left → Agrees offset (Some to) left old old
noted_there old offset to left there at = record {
  grows = record { long = refl; kept = λ t lt other. refl };
  shown = λ pairs limit b low small. brought_same pairs old to left limit b (λ lt e. absurd (omega (arith, at, e, low, small))) low;
  behind = λ t le. refl;
  there = λ t is.
      let same : to ≡ t = cc in
      subst (λ (k : ℕ). (k < length old) × (slice_index old k ≡ left)) same (there, at);
}

pub noted_none : (old : List ℕ) (offset left : ℕ) → Agrees offset None left old old
noted_none old offset left = record {
  grows = record { long = refl; kept = λ t lt other. refl };
  shown = λ pairs limit b low small. subst (λ (ps : List (ℕ × ℕ)). Shows ps old limit) (sym (append-nil pairs)) b;
  behind = λ t le. refl;
  there = λ t is. absurd cc;
}

pub free_more : (xs : List ℕ) (from at : ℕ) → ((t : ℕ) → from ≤ t → t < at → slice_index xs t ≡ 4294967295) → slice_index xs at ≡ 4294967295 → (t : ℕ) → from ≤ t → t < at + 1 → slice_index xs t ≡ 4294967295
free_more xs from at before here_too t le lt = elim (cases_eq t at) [ inl e ↦ rw e here_too | inr n ↦ before t le (omega (arith, lt, n)) ]

arrived_grows : (handed : Option ℕ) (offset : ℕ) (old : List ℕ) (height : ℕ) (new : List ℕ) → offset < length old → Arrives handed offset old height new → Grows old new
arrived_grows handed offset old height new lt a = record {
  long = ap length a.noted ∙ length-set old offset height;
  kept = λ t there other. ap (λ (xs : List ℕ). slice_index xs t) a.noted ∙ (elim (cases_eq t offset) [
    | inl e ↦ rw e (get_or-set_same old offset height 0 lt ∙ a.same (λ z. other (rw e z)))
    | inr n ↦ get_or-set_other old offset t height 0 n
  ]);
}

grows_on : (a b c : List ℕ) → Grows a b → Grows b c → Grows a c
grows_on a b c g h = record {
  long = h.long ∙ g.long;
  kept = λ t lt other.
      let same = g.kept t lt other in
      h.kept t (omega (arith, lt, g.long)) (λ e. other (sym same ∙ e)) ∙ same;
}

-- ---- heights behind, and what jumps bring

or_nothing : (o : Option ℕ) → or_else o None ≡ o
or_nothing None = refl
or_nothing (Some n) = refl

added_same : (hd : List (ℕ × ℕ)) (offset height : ℕ) → first_at hd offset ≡ None → first_at (hd ++ (offset, height) ∷ []) offset ≡ Some height
added_same hd offset height none = added hd offset height offset ∙ rw (none, the_same offset) refl

added_other : (hd : List (ℕ × ℕ)) (offset height t : ℕ) → (t ≡ offset → ⊥) → first_at (hd ++ (offset, height) ∷ []) t ≡ first_at hd t
added_other hd offset height t n =
    added hd offset height t ∙ (ap (λ (b : Bool). or_else (first_at hd t) (if b then Some height else None)) (not_same offset t (λ q. n (sym q))) ∙ or_nothing (first_at hd t))

arrived_first : (hd js : List (ℕ × ℕ)) (offset height : ℕ) → first_at hd offset ≡ None → first_at ((hd ++ (offset, height) ∷ []) ++ js) offset ≡ Some height
arrived_first hd js offset height none =
    first_at-append (hd ++ (offset, height) ∷ []) js offset ∙ ap (λ (o : Option ℕ). or_else o (first_at js offset)) (added_same hd offset height none)

arrived_other : (hd js : List (ℕ × ℕ)) (offset height t : ℕ) → (t ≡ offset → ⊥) → first_at ((hd ++ (offset, height) ∷ []) ++ js) t ≡ first_at (hd ++ js) t
arrived_other hd js offset height t n =
    first_at-append (hd ++ (offset, height) ∷ []) js t
    ∙ (ap (λ (o : Option ℕ). or_else o (first_at js t)) (added_other hd offset height t n)
    ∙ sym (first_at-append hd js t))

some_is : {x y : ℕ} → Some x ≡ Some y → x ≡ y
some_is e = cc

arrived_shows : (hd js : List (ℕ × ℕ)) (xs : List ℕ) (offset height limit : ℕ) → Shows (hd ++ js) xs limit → first_at hd offset ≡ None → offset < length xs → height ≤ limit
    → Shows ((hd ++ (offset, height) ∷ []) ++ js) (slice_set xs offset height) limit
arrived_shows hd js xs offset height limit b none there low = record {
  each = λ t lt. elim (cases_eq t offset) [
    | inl e ↦ rw e (get_or-set_same xs offset height 0 there ∙ sym (ap as_number (arrived_first hd js offset height none)))
    | inr n ↦ get_or-set_other xs offset t height 0 n ∙ (b.each t (omega (arith, lt, length-set xs offset height)) ∙ sym (ap as_number (arrived_other hd js offset height t n)))
  ];
  small = λ t h e. elim (cases_eq t offset) [
    | inl q ↦ (let there_is : first_at ((hd ++ (offset, height) ∷ []) ++ js) offset ≡ Some h = subst (λ (k : ℕ). first_at ((hd ++ (offset, height) ∷ []) ++ js) k ≡ Some h) q e in let same : height ≡ h = some_is (sym (arrived_first hd js offset height none) ∙ there_is) in omega (arith, low, same))
    | inr n ↦ b.small t h (sym (arrived_other hd js offset height t n) ∙ e)
  ];
}

-- ---- what is settled stays so

settled_grown : (fs : List LinkedFn) (f : LinkedFn) (old new : List ℕ) (p : Placed) → Grows old new → Settled fs f old p → Settled fs f new p
settled_grown fs f old new p g s = record {
  height = s.height;
  within = omega (arith, s.within, g.long);
  stands = g.kept p.offset s.within (λ e. absurd (omega (arith, e, s.stands, s.small))) ∙ s.stands;
  small = s.small;
  slot = s.slot;
  words = s.words;
  leaves = s.leaves;
  there = λ to is. let t = s.there to is in (omega (arith, t.0, g.long), g.kept to t.0 (λ e. absurd (omega (arith, e, t.1, s.low))) ∙ t.1);
  low = s.low;
}

all_grown : (fs : List LinkedFn) (f : LinkedFn) (old new : List ℕ) (ps : List Placed) → Grows old new → AllByRecursion (Settled fs f old) ps → AllByRecursion (Settled fs f new) ps
all_grown fs f old new [] g h = tt
all_grown fs f old new (p ∷ ps) g h = (settled_grown fs f old new p g h.0, all_grown fs f old new ps g h.1)

-- ---- one more instruction

handed_same : (i : Operation) (n m : ℕ) → handed_on i n ≡ Some m → m ≡ n
handed_same (Jump to) n m e = absurd cc
handed_same Return n m e = absurd cc
handed_same Trap n m e = absurd cc
handed_same i n m e = cc

-- before the first
pub swept_none : (fs : List LinkedFn) (f : LinkedFn) (numbers : List ℕ) → numbers ≡ replicate (length f.code) (2 ^ 32 - 1) → (count : Option ℕ) × (code_fault count 0 f.code ≡ None) → Swept fs f 0 (Some 0) 0 numbers
swept_none fs f numbers is whole = record {
  done = [];
  all = refl;
  within = omega arith;
  whole = whole;
  long = ap length is ∙ length-replicate (length f.code) (2 ^ 32 - 1);
  gives = refl;
  low = λ h e. omega (arith, some_is e);
  highest = refl;
  shown = subst (λ (xs : List ℕ). Shows [] xs 0) (sym is) (shows_nothing (length f.code));
  behind = λ t le. refl;
  between = λ t lt e. absurd (omega (arith, lt));
  settled = tt;
}

-- where the pass stands at an instruction
record Standing (fs : List LinkedFn) (f : LinkedFn) (offset : ℕ) (i : Operation) (b : Before) (hd : List (ℕ × ℕ)) (height : ℕ) (numbers : List ℕ) : Type 0 where
  pub lt : offset < length numbers
  pub is : height ≡ here b offset
  pub low : height ≤ 255 * offset
  pub short : 255 * offset + 255 < 4294967295
  pub none : first_at hd offset ≡ None

standing : (fs : List LinkedFn) (f : LinkedFn) (offset : ℕ) (handed : Option ℕ) (most : ℕ) (numbers : List ℕ) (i : Operation) (height : ℕ) (new : List ℕ) (s : Swept fs f offset handed most numbers)
    → offset < length f.code → length f.code ≤ 16777216 → Arrives handed offset numbers height new
    → Standing fs f offset i (reached fs at_start s.done) (heights fs at_start s.done) height numbers
standing fs f offset handed most numbers i height new s lt short a =
    let b = reached fs at_start s.done in
    let hd = heights fs at_start s.done in
    let there : offset < length numbers = omega (arith, lt, s.long) in
    let none : first_at hd offset ≡ None = s.behind offset (omega arith) in
    let brought : first_at (hd ++ b.jumps) offset ≡ first_at b.jumps offset = first_at-append hd b.jumps offset ∙ ap (λ (o : Option ℕ). or_else o (first_at b.jumps offset)) none in
    let few : (h : ℕ) → first_at b.jumps offset ≡ Some h → h ≤ 255 * offset = λ h e. s.shown.small offset h (brought ∙ e) in
    let is : height ≡ here b offset = here_is handed b offset height (slice_index numbers offset) (255 * offset) s.gives a.some (λ o e m l. a.none o e m l) (s.shown.each offset there ∙ ap as_number brought) few (omega (arith, lt, short)) in
    record {
      lt = there;
      is = is;
      low = omega (arith, is, here_low b offset (255 * offset) (λ n e. s.low n (s.gives ∙ e)) few);
      short = omega (arith, lt, short);
      none = none;
    }

pub swept_more : (fs : List LinkedFn) (f : LinkedFn) (offset : ℕ) (handed : Option ℕ) (most : ℕ) (numbers : List ℕ) (i : Operation) (height : ℕ) (mid : List ℕ) (w : Way) (new : List ℕ)
    → Swept fs f offset handed most numbers → offset < length f.code → length f.code ≤ 16777216 → IsThere f.code offset i
    → Arrives handed offset numbers height mid → Leads fs f i height w → Agrees offset w.target w.left mid new
    → ((t : ℕ) → offset + 1 ≤ t → t < offset + w.size → slice_index new t ≡ 4294967295)
    → Swept fs f (offset + w.size) w.handed (max most height) new
swept_more fs f offset handed most numbers i height mid w new s lt short there a l g free =
    let code = f.code in
    let count = s.whole.0 in
    let b = reached fs at_start s.done in
    let hd = heights fs at_start s.done in
    let p : Placed = record { offset = offset; operation = i } in
    let st = standing fs f offset handed most numbers i height mid s lt short a in
    let found = whole_front count code offset lt s.whole.1 in
    let front : Front count code offset i = subst (λ (j : Operation). Front count code offset j) (there_one code offset found.0 i found.1.there there) found.1 in
    let one : 1 ≤ size i = omega arith in
    let end : offset + size i ≡ offset + w.size = ap (λ (n : ℕ). offset + n) (sym l.size) in
    let long : offset + w.size ≤ length code = omega (arith, end, front.long) in
    let limit : ℕ = 255 * (offset + w.size) in
    let more : 255 * offset + 255 ≤ limit = omega (arith, one, l.size) in
    let top : limit < 4294967295 = omega (arith, long, short) in
    let left : w.left ≤ limit = omega (arith, l.small, st.low, more) in
    let grown = arrived_grows handed offset numbers height mid st.lt a in
    let both = grows_on numbers mid new grown g.grows in
    let reached_is : reached fs at_start (s.done ++ p ∷ []) ≡ next fs b p = reached_more fs at_start s.done p in
    let heights_is : heights fs at_start (s.done ++ p ∷ []) ≡ hd ++ (offset, height) ∷ [] = heights_more fs at_start s.done p ∙ ap (λ (n : ℕ). hd ++ (offset, n) ∷ []) (sym st.is) in
    let left_is : w.left ≡ left_by fs i (here b offset) = l.left ∙ ap (λ (n : ℕ). left_by fs i n) st.is in
    let arrived : Shows ((hd ++ (offset, height) ∷ []) ++ b.jumps) mid limit =
    subst (λ (xs : List ℕ). Shows ((hd ++ (offset, height) ∷ []) ++ b.jumps) xs limit) (sym a.noted)
    (arrived_shows hd b.jumps numbers offset height limit (shown_higher (hd ++ b.jumps) numbers (255 * offset) limit s.shown (omega (arith, more))) st.none st.lt (omega (arith, st.low, more))) in
    let brought : Shows (((hd ++ (offset, height) ∷ []) ++ b.jumps) ++ brings w.target w.left) new limit = g.shown _ limit arrived left top in
    let jumps_are : b.jumps ++ brings w.target w.left ≡ (next fs b p).jumps = ap (λ (o : Option ℕ). b.jumps ++ brings o w.left) l.target ∙ ap (λ (n : ℕ). b.jumps ++ brings (jumps_to i) n) left_is in
    let pairs : ((hd ++ (offset, height) ∷ []) ++ b.jumps) ++ brings w.target w.left ≡ heights fs at_start (s.done ++ p ∷ []) ++ (reached fs at_start (s.done ++ p ∷ [])).jumps =
    append_assoc (hd ++ (offset, height) ∷ []) b.jumps (brings w.target w.left)
    ∙ (ap (λ (js : List (ℕ × ℕ)). (hd ++ (offset, height) ∷ []) ++ js) jumps_are
    ∙ (ap (λ (hs : List (ℕ × ℕ)). hs ++ (next fs b p).jumps) (sym heights_is)
    ∙ ap (λ (c : Before). heights fs at_start (s.done ++ p ∷ []) ++ c.jumps) (sym reached_is))) in
    let here_now : slice_index new offset ≡ height = g.behind offset (omega arith) ∙ (ap (λ (xs : List ℕ). slice_index xs offset) a.noted ∙ get_or-set_same numbers offset height 0 st.lt) in
    let settled : Settled fs f new p = record {
      height = height;
      within = omega (arith, st.lt, both.long);
      stands = here_now;
      small = omega (arith, st.low, st.short);
      slot = l.slot;
      words = l.words;
      leaves = l.leaves;
      there = λ to is. let t = g.there to (l.target ∙ is) in (t.0, t.1 ∙ l.left);
      low = omega (arith, l.left, l.small, st.low, st.short);
    } in
    record {
      done = s.done ++ p ∷ [];
      all =
          append_assoc s.done (p ∷ []) (placed (offset + w.size) 0 (drop (offset + w.size) code))
          ∙ (ap (λ (n : ℕ). s.done ++ p ∷ placed n 0 (drop n code)) (sym end)
          ∙ (ap (λ (ps : List Placed). s.done ++ ps) (sym front.placed)
          ∙ s.all));
      within = long;
      whole = (count, subst (λ (n : ℕ). code_fault count n (drop n code) ≡ None) end front.whole);
      long = both.long ∙ s.long;
      gives = l.handed ∙ (ap (λ (n : ℕ). handed_on i (left_by fs i n)) st.is ∙ ap (λ (c : Before). c.handed) (sym reached_is));
      low = λ h e. omega (arith, handed_same i (left_by fs i height) h (sym l.handed ∙ e), l.left, left);
      highest = ap (λ (n : ℕ). max n height) s.highest ∙ (sym (greatest_more hd offset height) ∙ ap greatest (sym heights_is));
      shown = subst (λ (ps : List (ℕ × ℕ)). Shows ps new limit) pairs brought;
      behind = λ t le.
          ap (λ (hs : List (ℕ × ℕ)). first_at hs t) heights_is
          ∙ (added_other hd offset height t (λ e. absurd (omega (arith, le, e, one, l.size))) ∙ s.behind t (omega (arith, le)));
      between = λ t under e.
          let none : first_at (hd ++ (offset, height) ∷ []) t ≡ None = sym (ap (λ (hs : List (ℕ × ℕ)). first_at hs t) heights_is) ∙ e in
          elim (cases_lt offset t) [
            | inl ahead ↦ free t (omega (arith, ahead)) under
            | inr back ↦ elim (cases_eq t offset) [
              | inl q ↦ absurd (let is : first_at (hd ++ (offset, height) ∷ []) t ≡ Some height = rw q (added_same hd offset height st.none) in let no : None ≡ Some height = sym none ∙ is in cc)
              | inr n ↦
                  g.behind t (omega (arith, back))
                  ∙ (ap (λ (xs : List ℕ). slice_index xs t) a.noted
                  ∙ (get_or-set_other numbers offset t height 0 n
                  ∙ s.between t (omega (arith, back, n)) (sym (added_other hd offset height t n) ∙ none)))
            ]
          ];
      settled = all-append (Settled fs f new) s.done (p ∷ []) (all_grown fs f numbers new s.done both s.settled) (settled, tt);
    }

-- where the instruction at hand ends
pub ends_within : (fs : List LinkedFn) (f : LinkedFn) (offset : ℕ) (handed : Option ℕ) (most : ℕ) (numbers : List ℕ) (i : Operation) (bytes : ℕ)
    → Swept fs f offset handed most numbers → offset < length f.code → IsThere f.code offset i → bytes ≡ size i → (offset + 1 ≤ offset + bytes) × (offset + bytes ≤ length f.code)
ends_within fs f offset handed most numbers i bytes s lt there is =
    let found = whole_front s.whole.0 f.code offset lt s.whole.1 in
    let same : size found.0 ≡ size i = ap size (there_one f.code offset found.0 i found.1.there there) in
    let one : 1 ≤ size i = omega arith in
    (omega (arith, one, is), omega (arith, found.1.long, same, is))

-- ---- the end

found_of : (o p : Option ℕ) (n h : ℕ) → n ≡ as_number (or_else o p) → (o ≡ None → n ≡ 4294967295) → n ≡ h → h < 4294967295 → o ≡ Some h
found_of None p n h is none same low = absurd (omega (arith, none refl, same, low))
found_of (Some k) p n h is none same low = let e : k ≡ h = sym is ∙ same in ap (λ (x : ℕ). Some x) e

-- the numbers that the pass left are the heights
record Left (hs : List (ℕ × ℕ)) (numbers : List ℕ) : Type 0 where
  pub look : (t h : ℕ) → t < length numbers → slice_index numbers t ≡ h → h < 4294967295 → first_at hs t ≡ Some h

target_met : (target : Option ℕ) (hs : List (ℕ × ℕ)) (left : ℕ) → ((to : ℕ) → target ≡ Some to → first_at hs to ≡ Some left) → misses hs target ≡ false
target_met None hs left h = refl
target_met (Some to) hs left h = rw (h to refl) refl

brings_apart : (to left t : ℕ) (own : Option ℕ) → eqb to t ≡ false → brings_other (Some to) left own t ≡ false
brings_apart to left t None e = refl
brings_apart to left t (Some k) e = rw e refl

brings_same : (target : Option ℕ) (left : ℕ) (hs : List (ℕ × ℕ)) (t : ℕ) → ((to : ℕ) → target ≡ Some to → first_at hs to ≡ Some left) → brings_other target left (first_at hs t) t ≡ false
brings_same None left hs t h = refl
brings_same (Some to) left hs t h =
    elim (cases_eq to t) [
      | inl e ↦ (let there : first_at hs t ≡ Some left = subst (λ (k : ℕ). first_at hs k ≡ Some left) e (h to refl) in rw (there, eq-eqb to t e, eq-eqb left left refl) refl)
      | inr n ↦ brings_apart to left t (first_at hs t) (ne_eqb to t n)
    ]

settled_height : (fs : List LinkedFn) (f : LinkedFn) (hs : List (ℕ × ℕ)) (numbers : List ℕ) (p : Placed) → Left hs numbers → (s : Settled fs f numbers p) → height_at hs p.offset ≡ s.height
settled_height fs f hs numbers p l s = ap (λ (o : Option ℕ). unwrap_or o 0) (l.look p.offset s.height s.within s.stands s.small)

settled_target : (fs : List LinkedFn) (f : LinkedFn) (hs : List (ℕ × ℕ)) (numbers : List ℕ) (p : Placed) → Left hs numbers → (s : Settled fs f numbers p)
    → (to : ℕ) → jumps_to p.operation ≡ Some to → first_at hs to ≡ Some (left_by fs p.operation s.height)
settled_target fs f hs numbers p l s to is = let t = s.there to is in l.look to (left_by fs p.operation s.height) t.0 t.1 s.low

not_crossed : (fs : List LinkedFn) (f : LinkedFn) (hs : List (ℕ × ℕ)) (numbers : List ℕ) (t : ℕ) (ps : List Placed) → Left hs numbers → AllByRecursion (Settled fs f numbers) ps → is_crossed fs hs t ps ≡ false
not_crossed fs f hs numbers t [] l all = refl
not_crossed fs f hs numbers t (p ∷ ps) l all =
    let height = settled_height fs f hs numbers p l all.0 in
    let first : brings_other (jumps_to p.operation) (left_by fs p.operation (height_at hs p.offset)) (first_at hs t) t ≡ false =
    ap (λ (n : ℕ). brings_other (jumps_to p.operation) (left_by fs p.operation n) (first_at hs t) t) height
    ∙ brings_same (jumps_to p.operation) (left_by fs p.operation all.0.height) hs t (settled_target fs f hs numbers p l all.0) in
    ap (λ (b : Bool). b || is_crossed fs hs t ps) first ∙ not_crossed fs f hs numbers t ps l all.1

and_not_false : (a b : Bool) → (a ≡ true → b ≡ true) → (a && not b) ≡ false
and_not_false true true h = refl
and_not_false true false h = absurd (let e = h refl in cc)
and_not_false false b h = refl

-- an instruction that keeps each rule has no word of the table
passed : (fs : List LinkedFn) (hs : List (ℕ × ℕ)) (f : LinkedFn) (i : Operation) (height : ℕ) (crossed is_last : Bool) → Kept fs hs f i height crossed is_last → word_at fs hs f i height crossed is_last ≡ None
passed fs hs f i height crossed is_last k =
    let words : ltb height (taken fs i) ≡ false = le-ltb height (taken fs i) k.words in
    let leaves : (is_return i && not (eqb height f.«result»)) ≡ false = and_not_false (is_return i) (eqb height f.«result») (λ is. eq-eqb height f.«result» (k.leaves is)) in
    let ends : (is_last && not (may_end i)) ≡ false = and_not_false is_last (may_end i) k.ends in
    rw (k.target, k.slot, words, k.same, leaves, ends) refl

ends_of : (i : Operation) (left : ℕ) → handed_on i left ≡ None → may_end i ≡ true
ends_of (Jump to) left e = refl
ends_of Return left e = refl
ends_of Trap left e = refl
ends_of i left e = absurd cc

last_ends : (fs : List LinkedFn) (b : Before) (p : Placed) (ps : List Placed) → (reached fs b (p ∷ ps)).handed ≡ None → is_empty ps ≡ true → may_end p.operation ≡ true
last_ends fs b p [] e last = ends_of p.operation _ e
last_ends fs b p (q ∷ qs) e last = absurd cc

no_faults : (fs : List LinkedFn) (f : LinkedFn) (hs : List (ℕ × ℕ)) (numbers : List ℕ) (all : List Placed) (at : ℕ) (b : Before) (ps : List Placed) → Left hs numbers
    → ((t : ℕ) → is_crossed fs hs t all ≡ false) → AllByRecursion (Settled fs f numbers) ps → (reached fs b ps).handed ≡ None → code_faults fs hs f all at ps ≡ None
no_faults fs f hs numbers all at b [] l crossed settled e = refl
no_faults fs f hs numbers all at b (p ∷ ps) l crossed settled e =
    let s = settled.0 in
    let height = settled_height fs f hs numbers p l s in
    let kept : Kept fs hs f p.operation (height_at hs p.offset) (is_crossed fs hs p.offset all) (is_empty ps) = record {
      target = target_met (jumps_to p.operation) hs (left_by fs p.operation s.height) (settled_target fs f hs numbers p l s);
      slot = s.slot;
      words = omega (arith, height, s.words);
      same = crossed p.offset;
      leaves = λ is. height ∙ s.leaves is;
      ends = last_ends fs b p ps e;
    } in
    ap (λ (o : Option What). or_later (fault_if (at + p.offset) o) (code_faults fs hs f all at ps)) (passed fs hs f p.operation (height_at hs p.offset) (is_crossed fs hs p.offset all) (is_empty ps) kept)
    ∙ no_faults fs f hs numbers all at (next fs b p) ps l crossed settled.1 e

pub swept_all : (fs : List LinkedFn) (f : LinkedFn) (offset most : ℕ) (numbers : List ℕ) → Swept fs f offset None most numbers → length f.code ≤ offset → (at : ℕ) → Judges fs at f (Ok most)
unfolding operations
swept_all fs f offset most numbers s past at =
    let b = reached fs at_start s.done in
    let hd = heights fs at_start s.done in
    let same_end : offset ≡ length f.code = omega (arith, s.within, past) in
    let nothing : drop offset f.code ≡ [] = drop_all offset f.code past in
    let listed : s.done ≡ operations f.code = sym (append-nil s.done) ∙ (ap (λ (bs : List ℕ). s.done ++ placed offset 0 bs) (sym nothing) ∙ s.all) in
    let hs : hd ≡ heights_of fs f.code = heights-listed fs f.code s.done listed in
    let left : Left hd numbers = record { look = λ t h lt is low. found_of (first_at hd t) (first_at b.jumps t) (slice_index numbers t) h (s.shown.each t lt ∙ ap as_number (first_at-append hd b.jumps t)) (s.between t (omega (arith, lt, s.long, same_end))) is low } in
    let none : code_faults fs hd f s.done at s.done ≡ None = no_faults fs f hd numbers s.done at at_start s.done left (λ t. not_crossed fs f hd numbers t s.done left s.settled) s.settled (sym s.gives) in
    (sym (ap (λ (ps : List Placed). code_faults fs (heights_of fs f.code) f ps at ps) listed) ∙ (sym (ap (λ (ps : List (ℕ × ℕ)). code_faults fs ps f s.done at s.done) hs) ∙ none), s.highest ∙ ap greatest hs)
