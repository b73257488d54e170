-- What a load of a record tells of the store.
use Rattle.std.proofs.Common.{◌≡◌, ℕ, ◌+◌, ◌<◌, List, length, take, cond, Option, Some, None, Result, Ok, Err, true, refl, sym, ap, subst, ◌∙◌, arith, inl, inr, length-take}
use Rattle.std.specs.Prelude.{IfOk, IfSome, nat_lt}
use Rattle.std.specs.Option.{option_map}
use Rattle.std.specs.FinMap.{get}
use Rattle.std.specs.declared.alloc.AllocError.{AllocError}
use Rattle.std.proofs.lemmas.Bool.{cases_Bool, ltb-true, ltb-false, lt-ltb}
use Rattle.std.proofs.lemmas.List.{take_all}
use Rattle.files.specs.FilesState.{IsFound}
use Rattle.journal.specs.Journal as given
use Rattle.outside.specs.Held.{Held}
use Rattle.work_products.specs.RecordReading.{record_at}
use Rattle.work_products.specs.Records.{max_record, record_name}
use Rattle.work_products.specs.Store.{object_if_read, whole, whole_or_damaged, found_in, most_loaded, FindTells}
use Rattle.work_products.specs.declared.store.Found.{Found}
use Rattle.work_products.specs.declared.store.Found.TheVariants as found

-- one byte beyond a limit tells as much as all
cut : (most over : ℕ) (read : List ℕ → Option (List ℕ)) (content : List ℕ) → over ≡ most + 1
    → cond (nat_lt most (length (take over content))) None (read (take over content)) ≡ cond (nat_lt most (length content)) None (read content)
cut most over read content is =
    elim (cases_Bool (nat_lt most (length content))) [
      | inl e ↦
          let long : most < length content = ltb-true most (length content) e in
          let cut_long : nat_lt most (length (take over content)) ≡ true = lt-ltb most (length (take over content)) (omega (arith, length-take over content)) in
          rw (e, cut_long) refl
      | inr e ↦ ap (λ (l : List ℕ). cond (nat_lt most (length l)) None (read l)) (take_all over content (omega (arith, ltb-false most (length content) e)))
    ]

pub whole-cut : (text content : List ℕ) → whole text (take most_loaded content) ≡ whole text content
unfolding whole
whole-cut text content = cut max_record most_loaded (λ b. object_if_read text (record_at b)) content refl

cut_found : (text bytes : List ℕ) (content : Option (List ℕ)) → option_map (take most_loaded) content ≡ Some bytes → found_in text content ≡ found_in text (Some bytes)
cut_found text bytes None e = absurd cc
cut_found text bytes (Some content) e =
    let same : take most_loaded content ≡ bytes = cc in
    ap whole_or_damaged (sym (whole-cut text content) ∙ ap (whole text) same)

tells : (held : Held) (text : List ℕ) (answer : Found) → found_in text (get held (record_name text)) ≡ answer → FindTells held text answer
tells held text (found.Whole object) h = h
tells held text found.Absent h = h
tells held text found.Damaged h = h
tells held text found.StoreFault h = tt

-- what was loaded is judged as what is held
pub loaded-tells : (told : Option Held) (text bytes : List ℕ) (r : Result Found AllocError) → IsFound told (record_name text) most_loaded (given.Bytes bytes) → IfOk r (λ f. f ≡ found_in text (Some bytes))
    → IfSome told (λ held. IfOk r (FindTells held text))
loaded-tells None text bytes r found h = tt
loaded-tells (Some held) text bytes (Err e) found h = tt
loaded-tells (Some held) text bytes (Ok f) found h = tells held text f (cut_found text bytes (get held (record_name text)) found.1 ∙ sym h)

pub named-tells : (told : Option Held) (text name bytes slice : List ℕ) (r : Result Found AllocError) → name ≡ record_name text → slice ≡ bytes → IsFound told name most_loaded (given.Bytes bytes)
    → IfOk r (λ f. f ≡ found_in text (Some slice)) → IfSome told (λ held. IfOk r (FindTells held text))
named-tells told text name bytes slice r named same found judged =
    let here : IsFound told (record_name text) most_loaded (given.Bytes bytes) = subst (λ (n : List ℕ). IsFound told n most_loaded (given.Bytes bytes)) named found in
    loaded-tells told text bytes r here (subst (λ (b : List ℕ). IfOk r (λ f. f ≡ found_in text (Some b))) same judged)
