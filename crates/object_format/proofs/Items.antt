-- Reading items one after the other, as a loop does: `so_far` and r are what was read and what is left after i of n items.
use Rattle.std.proofs.Common.{◌≡◌, ℕ, suc, ◌-◌, ◌+◌, ◌≤◌, ◌<◌, Result, Ok, Err, refl, sym, ◌∙◌, arith}
use Rattle.lar_bytes.specs.Answers.{Fails}
use Rattle.lar_bytes.specs.declared.memory.OrMemory.{OrMemory}
use Rattle.lar_bytes.specs.declared.memory.OrMemory.TheVariants as errors
use Rattle.object_format.specs.declared.fault.BadFile.{BadFile}
use Rattle.object_format.specs.Reading.{Rest, items_at}

module _ {A : Type 0} (read : A → Rest → Result (A × Rest) BadFile) (n i : ℕ) (so_far : A) (r : Rest) (total : Result (A × Rest) BadFile) where
  -- one item more
  pub goes_on : (next : A) (s : Rest) → i < n → read so_far r ≡ Ok (next, s) → items_at read (n - i) so_far r ≡ total → items_at read (n - (i + 1)) next s ≡ total
  unfolding items_at
  goes_on next s lt h left =
      let k : n - i ≡ suc (n - (i + 1)) = omega arith in
      let one : items_at read (n - i) so_far r ≡ items_at read (n - (i + 1)) next s = rw (k, h) refl in
      sym one ∙ left

  -- an item with a fault
  pub ends : (e : OrMemory BadFile) → i < n → Fails e (read so_far r) → items_at read (n - i) so_far r ≡ total → Fails e total
  unfolding items_at
  ends errors.Memory lt h left = tt
  ends (errors.Refused f) lt h left =
      let k : n - i ≡ suc (n - (i + 1)) = omega arith in
      let one : items_at read (n - i) so_far r ≡ Err f = rw (k, h) refl in
      sym left ∙ one

  -- no item more
  pub is_done : n ≤ i → items_at read (n - i) so_far r ≡ total → total ≡ Ok (so_far, r)
  unfolding items_at
  is_done le left =
      let k : n - i ≡ 0 = omega arith in
      let one : items_at read (n - i) so_far r ≡ Ok (so_far, r) = rw k refl in
      sym left ∙ one
