-- Each step of a lease keeps the rule.
use Rattle.std.proofs.Common.{◌≡◌, ℕ, ◌+◌, ◌-◌, ◌%◌, ◌^◌, ◌≤◌, true, false, List, [], get_or, set, refl, ap, ◌∙◌, arith, length-set, get_or-set_same}
use mathlib.Core.Option.{none}
use Rattle.atomic_table.specs.Table.{step, keeps, Allows}
use Rattle.lease_table.specs.declared.view.LeaseView.{LeaseView}
use Rattle.lease_table.specs.declared.view.View.TheVariants.{OfLease}
use Rattle.counting.specs.Count.{one_if}
use Rattle.counting.proofs.Count.{total-set, total-mono}
use Rattle.lease_table.specs.Reading.{reading, word_of}
use Rattle.lease_table.specs.View.{share_of, busy_of, job_of, opened}
use Rattle.lease_table.specs.Rule.{Fits, Holds, Ruled}
use Rattle.lease_table.specs.Steps.{on_lease, lease_begun, lease_ended, alone_lease, Began, Stood, Ended}
use Rattle.lease_table.proofs.ViewLemmas.{busy_share, fits_set}

pub begins : (slots id : ℕ) (l : LeaseView) → l.busy ≡ false → Allows Ruled slots id (OfLease l, []) 0 (λ n. (n + 1) % 2 ^ 64) (Began (step slots 0 1 0 none) (OfLease l, []))
begins slots id l idle s kept _ at small =
    let held : ℕ = kept.0 in
    let running : ℕ = kept.1 in
    let top : ℕ = kept.2 in
    let peak : ℕ = kept.3 in
    let out : List ℕ = kept.4 in
    let h : Holds held running top peak out s.words s.views = kept.5 in
    let r = reading held (running + 1) in
    let w = on_lease (lease_begun r) (OfLease l) in
    let share = total-set share_of s.views id (OfLease l) w at in
    let busy = total-set busy_of s.views id (OfLease l) w at in
    let le = total-mono busy_of share_of busy_share (set s.views id w) in
    let none_yet : one_if l.busy ≡ 0 = ap one_if idle in
    let c = h.shares in
    let e = h.busies in
    let wd = h.word in
    let wide = h.wide in
    let most = h.most in
    let high = h.high in
    let room : running ≤ held = omega arith in
    let word' : (get_or s.words 0 0 + 1) % 18446744073709551616 ≡ word_of held (running + 1) = omega arith in (
      w,
      keeps,
      tt,
      (
        held,
        running + 1,
        top,
        peak,
        out,
        record {
          wide = length-set s.words 0 _ ∙ wide;
          word = get_or-set_same s.words 0 _ 0 (omega arith) ∙ word';
          shares = omega arith;
          busies = omega arith;
          most = most;
          high = high;
          highest = h.highest;
          jobs = λ x. let t = total-set (job_of x) s.views id (OfLease l) w at in let j = h.jobs x in omega arith;
          once = h.once;
          fits = fits_set s.views id w (Fits held top peak out) (Fits held top peak out) (record { least = omega arith; bound = omega arith; most = high }, λ _. refl) (λ i v other there g. g) h.fits;
        },
      ),
      (held, running, wd, room, most, refl),
    )

-- the share of a new table: no other view has one, so nothing runs
pub stands : (slots id : ℕ) → Allows Ruled slots id (opened, []) 0 (λ n. (n + 1) % 2 ^ 64) (Stood (step slots 0 1 0 none) (opened, []))
stands slots id s kept _ at small =
    let held : ℕ = kept.0 in
    let running : ℕ = kept.1 in
    let top : ℕ = kept.2 in
    let peak : ℕ = kept.3 in
    let out : List ℕ = kept.4 in
    let h : Holds held running top peak out s.words s.views = kept.5 in
    let mine : Fits held top peak out id opened = h.fits id opened at in
    let w = OfLease alone_lease in
    let share = total-set share_of s.views id opened w at in
    let busy = total-set busy_of s.views id opened w at in
    let le = total-mono busy_of share_of busy_share (set s.views id w) in
    let none_held = mine.1.held_is in
    let c = h.shares in
    let e = h.busies in
    let wd = h.word in
    let wide = h.wide in
    let most = h.most in
    let high = h.high in
    let idle : running ≡ 0 = omega arith in
    let word' : (get_or s.words 0 0 + 1) % 18446744073709551616 ≡ word_of held (running + 1) = omega arith in (
      w,
      keeps,
      tt,
      (
        held,
        running + 1,
        top,
        peak,
        out,
        record {
          wide = length-set s.words 0 _ ∙ wide;
          word = get_or-set_same s.words 0 _ 0 (omega arith) ∙ word';
          shares = omega arith;
          busies = omega arith;
          most = most;
          high = high;
          highest = h.highest;
          jobs = λ x. let t = total-set (job_of x) s.views id opened w at in let j = h.jobs x in omega arith;
          once = h.once;
          fits = fits_set s.views id w (Fits held top peak out) (Fits held top peak out) (record { least = omega arith; bound = omega arith; most = omega arith }, λ _. refl) (λ i v other there g. g) h.fits;
        },
      ),
      refl,
    )

pub ends : (slots id : ℕ) (l : LeaseView) → l.busy ≡ true → Allows Ruled slots id (OfLease l, []) 0 (λ n. (n + (2 ^ 64 - 1)) % 2 ^ 64) (Ended (step slots 0 1 0 none) (OfLease l, []))
ends slots id l is_busy s kept _ at small =
    let held : ℕ = kept.0 in
    let running : ℕ = kept.1 in
    let top : ℕ = kept.2 in
    let peak : ℕ = kept.3 in
    let out : List ℕ = kept.4 in
    let h : Holds held running top peak out s.words s.views = kept.5 in
    let mine : Fits held top peak out id (OfLease l) = h.fits id (OfLease l) at in
    let w = on_lease lease_ended (OfLease l) in
    let share = total-set share_of s.views id (OfLease l) w at in
    let busy = total-set busy_of s.views id (OfLease l) w at in
    let le = total-mono busy_of share_of busy_share s.views in
    let one : one_if l.busy ≡ 1 = ap one_if is_busy in
    let c = h.shares in
    let e = h.busies in
    let wd = h.word in
    let wide = h.wide in
    let most = h.most in
    let word' : (get_or s.words 0 0 + 18446744073709551615) % 18446744073709551616 ≡ word_of held (running - 1) = omega arith in (
      w,
      keeps,
      tt,
      (
        held,
        running - 1,
        top,
        peak,
        out,
        record {
          wide = length-set s.words 0 _ ∙ wide;
          word = get_or-set_same s.words 0 _ 0 (omega arith) ∙ word';
          shares = omega arith;
          busies = omega arith;
          most = most;
          high = h.high;
          highest = h.highest;
          jobs = λ x. let t = total-set (job_of x) s.views id (OfLease l) w at in let j = h.jobs x in omega arith;
          once = h.once;
          fits = fits_set s.views id w (Fits held top peak out) (Fits held top peak out) (mine.0, λ no_more. mine.1 is_busy) (λ i v other there g. g) h.fits;
        },
      ),
      refl,
    )
