use Rattle.std.proofs.Common.{◌≡◌, [], ℕ, ◌-◌, ◌^◌, ◌*◌, ◌<◌, List, length, sym, ap, subst, ◌∙◌, arith}
use Rattle.std.specs.Prelude.{slice_get}
use Rattle.std.proofs.lemmas.List.{length-replicate}
use Rattle.stack_vm.specs.Operation.{operations}
use Rattle.stack_vm.specs.Heights.{heights_of, Shows, greatest}
use Rattle.stack_vm.specs.Faults.{IsWithin, code_faults}
use Rattle.stack_vm.specs.declared.operation.Placed.{Placed}
use Rattle.stack_vm.proofs.Offsets.{all_get, IsLow, instructions_low, instructions_few, heights_within, within_same, heights-listed, shows_nothing}
use Rattle.stack_vm.proofs.checking.judge.Goals as goal

pub measure-greatest-requires-clause-few : goal.measure-greatest-requires-clause-few
measure-greatest-requires-clause-few c = omega (arith, instructions_few c.args.function.now.code, ap length c.requires.listed, c.requires.short)

pub measure-greatest-requires-clause-places : goal.measure-greatest-requires-clause-places
measure-greatest-requires-clause-places c k p is =
    let n = length c.args.function.now.code in
    let low : p.offset < n = all_get (IsLow n) (operations c.args.function.now.code) k p (instructions_low c.args.function.now.code) (ap (λ (ps : List Placed). slice_get ps k) (sym c.requires.listed) ∙ is) in
    omega (arith, low, ap length c.requires.brought, length-replicate n (2 ^ 32 - 1))

pub measure-greatest-requires-clause-brought : goal.measure-greatest-requires-clause-brought
measure-greatest-requires-clause-brought c = subst (λ (xs : List ℕ). Shows [] xs 0) (sym c.requires.brought) (shows_nothing (length c.args.function.now.code))

pub measure-greatest-requires-clause-found : goal.measure-greatest-requires-clause-found
measure-greatest-requires-clause-found c = subst (λ (xs : List ℕ). Shows [] xs 0) (sym c.requires.found) (shows_nothing (length c.args.function.now.code))

pub cross-requires-clause-places : goal.cross-requires-clause-places
cross-requires-clause-places c k p is =
    let n = length c.args.function.now.code in
    let low : p.offset < n = all_get (IsLow n) (operations c.args.function.now.code) k p (instructions_low c.args.function.now.code) (ap (λ (ps : List Placed). slice_get ps k) (sym c.requires.listed) ∙ is) in
    omega (arith, low, ap length c.requires.found, length-replicate n (2 ^ 32 - 1), c.measure-greatest.auto.found)

pub first-requires-clause-places : goal.first-requires-clause-places
first-requires-clause-places c k p is =
    let n = length c.args.function.now.code in
    let low : p.offset < n = all_get (IsLow n) (operations c.args.function.now.code) k p (instructions_low c.args.function.now.code) (ap (λ (ps : List Placed). slice_get ps k) (sym c.requires.listed) ∙ is) in
    omega (arith, low, ap length c.requires.found, length-replicate n (2 ^ 32 - 1), c.measure-greatest.auto.found)

pub returns-in-Some : goal.returns-in-Some
returns-in-Some c =
    let fs = c.args.functions.now in
    let f = c.args.function.now in
    let hs = heights_of fs f.code in
    let n = length f.code in
    let same = heights-listed fs f.code c.args.listed.now c.requires.listed in
    let shown : Shows hs c.measure-greatest.new.found (255 * 16777216) = subst (λ (xs : List (ℕ × ℕ)). Shows xs c.measure-greatest.new.found (255 * 16777216)) same c.measure-greatest.ensures.found in
    let long : length c.measure-greatest.new.found ≡ n = c.measure-greatest.auto.found ∙ ap length c.requires.found ∙ length-replicate n (2 ^ 32 - 1) in
    let within : IsWithin hs (length c.measure-greatest.new.found) = within_same hs n (length c.measure-greatest.new.found) (heights_within fs f.code) (omega (arith, long)) in
    let first = c.first.ensures hs shown within (λ t lt. c.cross.ensures hs shown t (omega (arith, lt, c.cross.auto.crossed))) in
    let listed : code_faults fs hs f c.args.listed.now c.args.at c.args.listed.now ≡ code_faults fs hs f (operations f.code) c.args.at (operations f.code) = ap (λ (ps : List Placed). code_faults fs hs f ps c.args.at ps) c.requires.listed in
    sym listed ∙ sym first ∙ c.in-Some.is

pub returns-in-None : goal.returns-in-None
returns-in-None c =
    let fs = c.args.functions.now in
    let f = c.args.function.now in
    let hs = heights_of fs f.code in
    let n = length f.code in
    let same = heights-listed fs f.code c.args.listed.now c.requires.listed in
    let shown : Shows hs c.measure-greatest.new.found (255 * 16777216) = subst (λ (xs : List (ℕ × ℕ)). Shows xs c.measure-greatest.new.found (255 * 16777216)) same c.measure-greatest.ensures.found in
    let long : length c.measure-greatest.new.found ≡ n = c.measure-greatest.auto.found ∙ ap length c.requires.found ∙ length-replicate n (2 ^ 32 - 1) in
    let within : IsWithin hs (length c.measure-greatest.new.found) = within_same hs n (length c.measure-greatest.new.found) (heights_within fs f.code) (omega (arith, long)) in
    let first = c.first.ensures hs shown within (λ t lt. c.cross.ensures hs shown t (omega (arith, lt, c.cross.auto.crossed))) in
    let listed : code_faults fs hs f c.args.listed.now c.args.at c.args.listed.now ≡ code_faults fs hs f (operations f.code) c.args.at (operations f.code) = ap (λ (ps : List Placed). code_faults fs hs f ps c.args.at ps) c.requires.listed in
    (sym listed ∙ sym first ∙ c.in-None.is, c.measure-greatest.ensures.greatest ∙ ap greatest same)
