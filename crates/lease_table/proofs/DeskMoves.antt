-- Each step of the desk keeps the rule.
use Rattle.std.proofs.Common.{◌≡◌, ◌≢◌, ℕ, zero, suc, ◌+◌, ◌-◌, ◌%◌, ◌^◌, ◌<◌, ◌≤◌, max, false, List, [], ◌∷◌, get_or, set, sym, refl, ap, ◌∙◌, subst, ⊎_elim, arith, length-set, get_or-set_same, get_or-set_other}
use Rattle.std.proofs.lemmas.List.{set-get_or}
use mathlib.Core.Option.{none, some, some-injective, some-ne-none}
use lib.ListN.{get_elem?}
use Rattle.atomic_table.specs.Table.{step, keeps, opening, Allows, Splits, Joins}
use Rattle.atomic_table.proofs.Lists.{at_set, at_snoc, set_again, set_else}
use Rattle.lease_table.specs.declared.view.DeskView.{DeskView}
use Rattle.lease_table.specs.declared.view.LeaseView.{LeaseView}
use Rattle.lease_table.specs.declared.view.View.{View}
use Rattle.lease_table.specs.declared.view.View.TheVariants.{OfDesk, OfLease, Spent}
use Rattle.counting.specs.Count.{one_if, times, total}
use Rattle.counting.proofs.Count.{total-set, total-snoc, total-mono, total-at}
use Rattle.lease_table.specs.Reading.{word_of, IsBegunIfAny, AllBegun, seen_with}
use Rattle.lease_table.specs.Jobs.{times_job, out_with, out_without}
use Rattle.lease_table.specs.View.{share_of, busy_of, job_of, peak_at, opened}
use Rattle.lease_table.specs.Rule.{FitsDesk, Fits, Holds, Ruled}
use Rattle.lease_table.specs.Steps.{on_desk, desk_took, desk_gave, desk_named, desk_spent, desk_side, lease_side, both_sides, Took, Gave, Named, Looked}
use Rattle.lease_table.proofs.ReadingLemmas.{IsBegunIfAny-mono, AllBegun-mono, AllBegun-seen_with}
use Rattle.lease_table.proofs.JobLemmas.{times-out_with, times-out_with-once, times-out_without, is_out, IsNotOut-out_without}
use Rattle.lease_table.proofs.ViewLemmas.{busy_share, at_there, fits_set, Fits-mono}
use Rattle.lease_table.proofs.RestLemmas.{peak_at-between, others_bare, none_out, Fits-peak_at}

pub opens : Ruled (opening (0 ∷ 0 ∷ []) [] opened)
opens = (0, 0, 0, 0, [], record { wide = refl; word = refl; shares = refl; busies = refl; most = omega arith; high = omega arith; highest = omega arith; jobs = λ x. refl; once = λ x. omega arith; fits = first })
  where
    first : (i : ℕ) (v : View) → get_elem? (opened ∷ []) i ≡ some v → Fits 0 0 0 [] i v
    first zero v e = subst (Fits 0 0 0 [] 0) (some-injective _ _ e) (refl, record { held_is = refl; top_is = refl; peak_is = refl; out_is = refl; named = tt; seen = tt; back = tt; word = tt })
    first (suc i) v e = absurd (some-ne-none v (sym e))

-- the desk's step on the first word
pub takes : (slots id : ℕ) (d : DeskView) → d.held < 63 → Allows Ruled slots id (OfDesk d, []) 0 (λ n. (n + 4294967296) % 2 ^ 64) (Took (step slots 0 4294967296 0 none) (OfDesk d, []))
takes slots id d room s kept _ at _ =
    let held : ℕ = kept.0 in
    let running : ℕ = kept.1 in
    let top : ℕ = kept.2 in
    let peak : ℕ = kept.3 in
    let out : List ℕ = kept.4 in
    let h : Holds held running top peak out s.words s.views = kept.5 in
    let mine : Fits held top peak out id (OfDesk d) = h.fits id (OfDesk d) at in
    let f : FitsDesk held top peak out d = mine.1 in
    let w = on_desk desk_took (OfDesk d) in
    let top' : ℕ = max d.top (d.held + 1) in
    let peak' : ℕ = max d.peak (d.held + 1) in
    let share = total-set share_of s.views id (OfDesk d) w at in
    let busy = total-set busy_of s.views id (OfDesk d) w at in
    let le = total-mono busy_of share_of busy_share s.views in
    let a = f.held_is in
    let b = f.top_is in
    let k = f.peak_is in
    let c = h.shares in
    let e = h.busies in
    let wd = h.word in
    let wide = h.wide in
    let most = h.most in
    let up : top ≤ top' = omega arith in
    let rise : peak ≤ peak' = omega arith in
    let word' : (get_or s.words 0 0 + 4294967296) % 18446744073709551616 ≡ word_of (held + 1) running = omega arith in (
      w,
      keeps,
      tt,
      (
        held + 1,
        running,
        top',
        peak',
        out,
        record {
          wide = length-set s.words 0 _ ∙ wide;
          word = get_or-set_same s.words 0 _ 0 (omega arith) ∙ word';
          shares = omega arith;
          busies = omega arith;
          most = omega arith;
          high = omega arith;
          highest = omega arith;
          jobs = λ x. let t = total-set (job_of x) s.views id (OfDesk d) w at in let j = h.jobs x in omega arith;
          once = h.once;
          fits = fits_set s.views id w (Fits held top peak out) (Fits (held + 1) top' peak' out)
              (mine.0, record { held_is = ap (λ (n : ℕ). n + 1) a; top_is = refl; peak_is = refl; out_is = f.out_is; named = f.named; seen = AllBegun-mono top top' d.seen up f.seen; back = f.back; word = f.word })
              (λ i v other there g. Fits-mono held top peak (held + 1) top' peak' out out i v rise (λ z. other (z ∙ sym mine.0)) g) h.fits;
        },
      ),
      refl,
    )

pub gives : (slots id : ℕ) (d : DeskView) → 1 ≤ d.held → 1 ≤ d.share → Allows Ruled slots id (OfDesk d, []) 0 (λ n. (n + (2 ^ 64 - 4294967296)) % 2 ^ 64) (Gave (step slots 0 4294967296 0 none) (OfDesk d, []))
gives slots id d some_held some_share s kept _ at small =
    let held : ℕ = kept.0 in
    let running : ℕ = kept.1 in
    let top : ℕ = kept.2 in
    let peak : ℕ = kept.3 in
    let out : List ℕ = kept.4 in
    let h : Holds held running top peak out s.words s.views = kept.5 in
    let mine : Fits held top peak out id (OfDesk d) = h.fits id (OfDesk d) at in
    let f : FitsDesk held top peak out d = mine.1 in
    let w = on_desk desk_gave (OfDesk d) in
    let share = total-set share_of s.views id (OfDesk d) w at in
    let busy = total-set busy_of s.views id (OfDesk d) w at in
    let le = total-mono busy_of share_of busy_share s.views in
    let a = f.held_is in
    let c = h.shares in
    let e = h.busies in
    let wd = h.word in
    let wide = h.wide in
    let most = h.most in
    let high = h.high in
    let highest = h.highest in
    let k = f.peak_is in
    let peak' : ℕ = peak_at (d.share - 1) (d.held - 1) d.peak in
    let between = peak_at-between (d.share - 1) (d.held - 1) d.peak (omega arith) in
    let low = between.0 in
    let up = between.1 in
    let word' : (get_or s.words 0 0 + 18446744069414584320) % 18446744073709551616 ≡ word_of (held - 1) running = omega arith in (
      w,
      keeps,
      tt,
      (
        held - 1,
        running,
        top,
        peak',
        out,
        record {
          wide = length-set s.words 0 _ ∙ wide;
          word = get_or-set_same s.words 0 _ 0 (omega arith) ∙ word';
          shares = omega arith;
          busies = omega arith;
          most = omega arith;
          high = omega arith;
          highest = omega arith;
          jobs = λ x. let t = total-set (job_of x) s.views id (OfDesk d) w at in let j = h.jobs x in omega arith;
          once = h.once;
          fits = fits_set s.views id w (Fits held top peak out) (Fits (held - 1) top peak' out)
              (mine.0, record { held_is = ap (λ (n : ℕ). n - 1) a; top_is = f.top_is; peak_is = refl; out_is = f.out_is; named = f.named; seen = f.seen; back = f.back; word = f.word })
              (λ i v other there g. Fits-peak_at held top peak (held - 1) top (d.share - 1) (d.held - 1) d.peak out out i v (omega arith) (λ all. others_bare s.views id i held d v c at (omega arith) other there) (λ z. other (z ∙ sym mine.0)) g) h.fits;
        },
      ),
      refl,
    )

zero_one : (a b : ℕ) → a ≡ 0 → b ≡ 1 → a ≢ b
zero_one a b p q e = omega arith

pub names : (slots id job : ℕ) (d : DeskView) → times job d.out ≡ 0 → Allows Ruled slots id (OfDesk d, []) 1 (λ _. job) (Named (step slots 1 job 0 none) (OfDesk d, []))
names slots id job d absent s kept _ at small =
    let held : ℕ = kept.0 in
    let running : ℕ = kept.1 in
    let top : ℕ = kept.2 in
    let peak : ℕ = kept.3 in
    let out : List ℕ = kept.4 in
    let h : Holds held running top peak out s.words s.views = kept.5 in
    let mine : Fits held top peak out id (OfDesk d) = h.fits id (OfDesk d) at in
    let f : FitsDesk held top peak out d = mine.1 in
    let w = on_desk (desk_named job) (OfDesk d) in
    let share = total-set share_of s.views id (OfDesk d) w at in
    let busy = total-set busy_of s.views id (OfDesk d) w at in
    let c = h.shares in
    let e = h.busies in
    let apart = zero_one 0 1 refl refl in (
      w,
      keeps,
      tt,
      (
        held,
        running,
        top,
        peak,
        out,
        record {
          wide = length-set s.words 1 _ ∙ h.wide;
          word = get_or-set_other s.words 1 0 _ 0 apart ∙ h.word;
          shares = omega arith;
          busies = omega arith;
          most = h.most;
          high = h.high;
          highest = h.highest;
          jobs = λ x. let t = total-set (job_of x) s.views id (OfDesk d) w at in let j = h.jobs x in omega arith;
          once = h.once;
          fits = fits_set s.views id w (Fits held top peak out) (Fits held top peak out)
              (mine.0, record { held_is = f.held_is; top_is = f.top_is; peak_is = f.peak_is; out_is = f.out_is; named = absent; seen = f.seen; back = f.back; word = f.word })
              (λ i v other there g. g) h.fits;
        },
      ),
      refl,
    )

pub lends : (id : ℕ) (d : DeskView) → 1 ≤ d.share → Splits Ruled id (OfDesk d) (desk_side (OfDesk d)) (lease_side (OfDesk d))
lends id d some_share s kept at =
    let held : ℕ = kept.0 in
    let running : ℕ = kept.1 in
    let top : ℕ = kept.2 in
    let peak : ℕ = kept.3 in
    let out : List ℕ = kept.4 in
    let h : Holds held running top peak out s.words s.views = kept.5 in
    let mine : Fits held top peak out id (OfDesk d) = h.fits id (OfDesk d) at in
    let f : FitsDesk held top peak out d = mine.1 in
    let w = desk_side (OfDesk d) in
    let u = lease_side (OfDesk d) in
    let out' = out_with d.out d.named in
    let views' = set s.views id w in
    let share = total-set share_of s.views id (OfDesk d) w at in
    let share' = total-snoc share_of views' u in
    let busy = total-set busy_of s.views id (OfDesk d) w at in
    let busy' = total-snoc busy_of views' u in
    let c = h.shares in
    let e = h.busies in
    let set_fits = fits_set s.views id w (Fits held top peak out) (Fits held top peak out')
    (mine.0, record { held_is = f.held_is; top_is = f.top_is; peak_is = f.peak_is; out_is = refl; named = tt; seen = f.seen; back = f.back; word = f.word })
    (λ i v other there g. Fits-mono held top peak held top peak out out' i v (omega arith) (λ z. other (z ∙ sym mine.0)) g) h.fits in (
      held,
      running,
      top,
      peak,
      out',
      record {
        wide = h.wide;
        word = h.word;
        shares = omega arith;
        busies = omega arith;
        most = h.most;
        high = h.high;
        highest = h.highest;
        jobs = λ x. let t = total-set (job_of x) s.views id (OfDesk d) w at in let t' = total-snoc (job_of x) views' u in let j = h.jobs x in let n = times-out_with x d.named d.out in let o : times x d.out ≡ times x out = ap (times x) f.out_is in omega arith;
        once = times-out_with-once d.named d.out f.named (λ x. let o : times x d.out ≡ times x out = ap (times x) f.out_is in let k = h.once x in omega arith);
        fits = λ i v g. ⊎_elim (λ (old : get_elem? views' i ≡ some v). set_fits i v old) (λ (new : u ≡ v). subst (Fits held top peak out' i) new (tt, λ b. absurd (cc))) (at_snoc views' u v i g);
      },
    )

pub spends : (id : ℕ) (d : DeskView) (other : ℕ) (l : LeaseView) → l.busy ≡ false → Joins Ruled id (OfDesk d) other (OfLease l) (both_sides (OfDesk d) (OfLease l)) Spent
spends id d other l idle s kept at apart there =
    let held : ℕ = kept.0 in
    let running : ℕ = kept.1 in
    let top : ℕ = kept.2 in
    let peak : ℕ = kept.3 in
    let out : List ℕ = kept.4 in
    let h : Holds held running top peak out s.words s.views = kept.5 in
    let mine : Fits held top peak out id (OfDesk d) = h.fits id (OfDesk d) at in
    let f : FitsDesk held top peak out d = mine.1 in
    let w = both_sides (OfDesk d) (OfLease l) in
    let out' = out_without d.out l.job in
    let views' = set s.views id w in
    let was : get_elem? s.views other ≡ some (OfLease l) = ⊎_elim (λ (t : (other ≡ id) × (w ≡ OfLease l)). absurd (apart t.0)) (λ (t : (other ≢ id) × (get_elem? s.views other ≡ some (OfLease l))). t.1) (at_set s.views id other w (OfLease l) there) in
    let theirs : Fits held top peak out other (OfLease l) = h.fits other (OfLease l) was in
    let share = total-set share_of s.views id (OfDesk d) w at in
    let share' = total-set share_of views' other (OfLease l) Spent there in
    let busy = total-set busy_of s.views id (OfDesk d) w at in
    let busy' = total-set busy_of views' other (OfLease l) Spent there in
    let none_yet : one_if l.busy ≡ 0 = ap one_if idle in
    let c = h.shares in
    let e = h.busies in
    let has : (y : ℕ) → times_job y l.job ≤ times y d.out = λ y. let t = total-at (job_of y) s.views other (OfLease l) was in let j = h.jobs y in let o : times y d.out ≡ times y out = ap (times y) f.out_is in omega arith in
    let once : (y : ℕ) → times y d.out ≤ 1 = λ y. let o : times y d.out ≡ times y out = ap (times y) f.out_is in let k = h.once y in omega arith in
    let a = f.held_is in
    let k = f.peak_is in
    let high = h.high in
    let highest = h.highest in
    let peak' : ℕ = peak_at (d.share + 1) d.held d.peak in
    let between = peak_at-between (d.share + 1) d.held d.peak (omega arith) in
    let low = between.0 in
    let up = between.1 in
    let last : IsBegunIfAny d.peak l.word = IsBegunIfAny-mono peak d.peak l.word (omega arith) theirs.0 in
    let word : IsBegunIfAny top l.word = IsBegunIfAny-mono peak top l.word highest theirs.0 in
    let seen : AllBegun top (seen_with d.seen l.job l.word) = AllBegun-seen_with top d.seen l.job l.word f.seen word in
    let views'' = set views' other Spent in
    let shares' : total share_of views'' ≡ held + 1 = omega arith in
    let at'' : get_elem? views'' id ≡ some w = set_else views' other id Spent (λ z. apart (sym z)) ∙ at_there s.views id (OfDesk d) w at in
    let set_fits = fits_set s.views id w (Fits held top peak out) (λ i v. i ≢ other → Fits held top peak' out' i v)
    (λ z. (mine.0, record { held_is = f.held_is; top_is = f.top_is; peak_is = refl; out_is = refl; named = IsNotOut-out_without d.named l.job d.out has f.named; seen = seen; back = is_out l.job d.out has once; word = last }))
    (λ i v no_desk here g no_lease. Fits-peak_at held top peak held top (d.share + 1) d.held d.peak out out' i v (omega arith) (λ all. others_bare views'' id i held (desk_spent d l) v shares' at'' (omega arith) no_desk (set_else views' other i Spent no_lease ∙ set_else s.views id i w no_desk ∙ here)) (λ z. no_desk (z ∙ sym mine.0)) g) h.fits in (
      held,
      running,
      top,
      peak',
      out',
      record {
        wide = h.wide;
        word = h.word;
        shares = omega arith;
        busies = omega arith;
        most = h.most;
        high = omega arith;
        highest = omega arith;
        jobs = λ x. let t = total-set (job_of x) s.views id (OfDesk d) w at in let t' = total-set (job_of x) views' other (OfLease l) Spent there in let j = h.jobs x in let n = times-out_without x l.job d.out has in let o : times x d.out ≡ times x out = ap (times x) f.out_is in omega arith;
        once = λ x. let n = times-out_without x l.job d.out has in let k = once x in omega arith;
        fits = fits_set views' other Spent (λ i v. i ≢ other → Fits held top peak' out' i v) (Fits held top peak' out') tt (λ i v no_lease there' g. g no_lease) set_fits;
      },
    )

pub looks : (slots id : ℕ) (d : DeskView) → Allows Ruled slots id (OfDesk d, []) 0 (λ n. n) (Looked (step slots 0 0 0 none) (OfDesk d, []))
looks slots id d s kept _ at small =
    let held : ℕ = kept.0 in
    let running : ℕ = kept.1 in
    let top : ℕ = kept.2 in
    let peak : ℕ = kept.3 in
    let out : List ℕ = kept.4 in
    let h : Holds held running top peak out s.words s.views = kept.5 in
    let mine : Fits held top peak out id (OfDesk d) = h.fits id (OfDesk d) at in
    let f : FitsDesk held top peak out d = mine.1 in
    let share = total-at share_of s.views id (OfDesk d) at in
    let a = f.held_is in
    let c = h.shares in (
      OfDesk d,
      keeps,
      tt,
      subst (λ (z : List ℕ × List View). Ruled (record { words = z.0; homes = s.homes; views = z.1 })) (λ i. (sym (set-get_or s.words 0 0) i, sym (set_again s.views id (OfDesk d) at) i)) kept,
      (refl, record { back = f.back; word = f.word; seen = subst (λ (t : ℕ). AllBegun t d.seen) (sym f.top_is) f.seen; share = omega arith; rest = λ all. f.out_is ∙ none_out s.views id held d out h.shares at (omega arith) h.jobs }),
    )
