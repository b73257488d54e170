-- No command goes by bytes past what its reads ask for.
use Rattle.std.proofs.Common.{◌≡◌, ◌∙◌, ℕ, nat_lt, Bool, true, false, List, [], ◌∷◌, map, length, take, Option, Some, None, Result, Ok, Err, refl, sym, ap, arith, codes}
use Rattle.std.proofs.lemmas.List.{take_all, length-take}
use Rattle.lar_source.specs.declared.file.File.{File}
use Rattle.listings.specs.Listed.{listing_at}
use Rattle.object_format.specs.Image.{Linked}
use Rattle.object_format.specs.Object.{Unlinked}
use Rattle.object_format.specs.ObjectReading.{object_at}
use Rattle.object_format.specs.Reading.{refused}
use Rattle.object_format.specs.declared.fault.BadFile.{BadFile}
use Rattle.object_format.specs.declared.fault.What.TheVariants.{Long}
use Rattle.scripts.specs.Performing.{IsWide}
use Rattle.scripts.specs.Script.{Finding, Bytes, Absent, Failed, ◌>>=◌}
use Rattle.stack_vm.specs.Acts.{Ran, runs_of}
use Rattle.stack_vm.specs.declared.end.End.{End as How}
use Rattle.stack_vm.specs.declared.end.End.TheVariants as how
use Rattle.symbol_link.specs.Linked.{linked}
use Rattle.symbol_link.specs.declared.fault.LinkFault.{LinkFault}
use Rattle.source_gen.specs.Sources.{files_of}
use Rattle.build_units.specs.Listed.{listed}
use Rattle.words.specs.Commands.{image_name}
use Rattle.words.specs.Recipes.{Recipe}
use Rattle.words.specs.declared.commands.Command.{Command}
use Rattle.words.specs.declared.commands.Command.TheVariants.{Build, Check, Units, Run, Dump, Link, Gen}
use Rattle.larch_cli.specs.Commands.{Steps, found, fetch, saved, save, say, or_stop, given, judged, linked_or, or_told, gather, printed, run_end, build_script, check_script, units_script, run_script, dump_script, link_script, save_all, gen_script, command_script, Request, Nothing, Named, request_script}
use Rattle.larch_cli.specs.Spelled.{accepted, image_of, limited, valid_image, with_file, summary}
use Rattle.larch_cli.specs.declared.status.Status.{Status}
use Rattle.larch_cli.specs.declared.status.Status.TheVariants as status
use Rattle.larch_cli.proofs.WideSources.{sources_wide, told_wide}

-- ---- what a front of a file spells

-- a file that is longer than the limit is seen to be so
too_long : {X : Type 0} (spelled : List ℕ → Result X BadFile) (bytes : List ℕ) → nat_lt 67108864 (length bytes) ≡ true → limited spelled bytes ≡ refused 67108864 Long
too_long spelled bytes h = rw h refl

limited-take : {X : Type 0} (spelled : List ℕ → Result X BadFile) (most : ℕ) (bytes : List ℕ) → most ≡ 67108865 → limited spelled (take most bytes) ≡ limited spelled bytes
limited-take spelled most bytes e =
    elim (nat_lt (length bytes) most) as (λ b. nat_lt (length bytes) most ≡ b → limited spelled (take most bytes) ≡ limited spelled bytes) [
      | true ↦ λ short. ap (limited spelled) (take_all most bytes (grind (arith, short)))
      | false ↦ λ long. too_long spelled (take most bytes) (grind (arith, long, length-take most bytes, e)) ∙ sym (too_long spelled bytes (grind (arith, long, e)))
    ] refl

-- ---- the steps

fetch_each : {A : Type 0} (name : List ℕ) (k : List ℕ → Steps A) → ((bytes : List ℕ) → IsWide (k bytes)) → (x : Finding) → IsWide (found name x >>= k)
unfolding IsWide ◌>>=◌
fetch_each name k wide (Bytes bytes) = wide bytes
fetch_each name k wide Absent = tt
fetch_each name k wide Failed = tt

fetch_wide : {A : Type 0} (name : List ℕ) (most : ℕ) (k : List ℕ → Steps A) → ((bytes : List ℕ) → k (take most bytes) ≡ k bytes) → ((bytes : List ℕ) → IsWide (k bytes)) → IsWide (fetch name most >>= k)
unfolding IsWide ◌>>=◌
fetch_wide name most k same wide = (same, fetch_each name k wide)

save_each : {A : Type 0} (name : List ℕ) (k : Unit {0} → Steps A) → IsWide (k tt) → (x : Bool) → IsWide (saved name x >>= k)
unfolding IsWide ◌>>=◌
save_each name k wide true = wide
save_each name k wide false = tt

save_wide : {A : Type 0} (name bytes : List ℕ) (k : Unit {0} → Steps A) → IsWide (k tt) → IsWide (save name bytes >>= k)
unfolding IsWide ◌>>=◌
save_wide name bytes k wide = (tt, save_each name k wide)

say_wide : {A : Type 0} (text : List ℕ) (k : Unit {0} → Steps A) → IsWide (k tt) → IsWide (say text >>= k)
unfolding IsWide ◌>>=◌
say_wide text k wide = (tt, λ x. wide)

last_wide : (text : List ℕ) → IsWide (say text)
unfolding IsWide
last_wide text = (tt, λ x. tt)

or_stop_wide : {A X : Type 0} (s : Status) (o : Option X) (k : X → Steps A) → ((x : X) → IsWide (k x)) → IsWide (or_stop s o >>= k)
unfolding IsWide ◌>>=◌
or_stop_wide s (Some x) k wide = wide x
or_stop_wide s None k wide = tt

judged_wide : {A X : Type 0} (name : List ℕ) (r : Result X BadFile) (k : X → Steps A) → ((x : X) → IsWide (k x)) → IsWide (judged name r >>= k)
unfolding IsWide ◌>>=◌
judged_wide name (Ok x) k wide = wide x
judged_wide name (Err fault) k wide = tt

linked_wide : {A : Type 0} (r : Result Linked LinkFault) (k : Linked → Steps A) → ((x : Linked) → IsWide (k x)) → IsWide (linked_or r >>= k)
unfolding IsWide ◌>>=◌
linked_wide (Ok x) k wide = wide x
linked_wide (Err fault) k wide = tt

-- ---- the commands

check_wide : (names : List (List ℕ)) → IsWide (check_script names)
check_wide names = sources_wide (λ files tree. say (codes "ok\n")) names (λ files tree. last_wide (codes "ok\n"))

units_wide : (names : List (List ℕ)) (limit : ℕ) → IsWide (units_script names limit)
units_wide names limit =
    sources_wide (λ files tree. or_told (listed (map (λ f. f.name) files) limit tree) >>= say) names
    (λ files tree. told_wide (λ files tree. say []) (listed (map (λ f. f.name) files) limit tree) say last_wide)

build_wide : (names : List (List ℕ)) → IsWide (build_script names)
build_wide names =
    sources_wide (λ files tree. or_stop status.Unsupported (accepted files) >>= λ numbers. save image_name (image_of numbers) >>= λ _. say summary) names
    (λ files tree. or_stop_wide _ (accepted files) _ (λ numbers. save_wide _ _ _ (last_wide _)))

end_wide : (w : How) → IsWide (run_end w)
unfolding IsWide
end_wide how.Ended = tt
end_wide (how.Trapped kind function offset) = tt
end_wide w = tt

printed_wide : (ran : Option Ran) → IsWide (printed ran)
unfolding IsWide
printed_wide None = tt
printed_wide (Some ran) = say_wide ran.text _ (end_wide ran.how)

run_wide : (name : List ℕ) (steps : ℕ) → IsWide (run_script name steps)
run_wide name steps =
    fetch_wide name 67108865 _ (λ bytes. ap (λ r. judged name r >>= λ image. printed (runs_of image steps)) (limited-take valid_image 67108865 bytes refl)) (λ bytes. judged_wide name (limited valid_image bytes) _ (λ image. printed_wide (runs_of image steps)))

dump_wide : (name : List ℕ) → IsWide (dump_script name)
dump_wide name = fetch_wide name 67108865 _ (λ bytes. ap (λ r. judged name r >>= say) (limited-take listing_at 67108865 bytes refl)) (λ bytes. judged_wide name (limited listing_at bytes) _ last_wide)

given_wide : {A X : Type 0} (r : Result X Status) (k : X → Steps A) → ((x : X) → IsWide (k x)) → IsWide (given r >>= k)
unfolding IsWide ◌>>=◌
given_wide (Ok x) k wide = wide x
given_wide (Err s) k wide = tt

gather_each : {A : Type 0} (name : List ℕ) (names : List (List ℕ)) (decoded : Result (List Unlinked) Status) (k : List Unlinked → Steps A) → ((bytes : List ℕ) → IsWide (gather (with_file decoded name (limited object_at bytes)) names >>= k))
    → (x : Finding) → IsWide ((found name x >>= λ bytes. gather (with_file decoded name (limited object_at bytes)) names) >>= k)
unfolding IsWide ◌>>=◌
gather_each name names decoded k wide (Bytes bytes) = wide bytes
gather_each name names decoded k wide Absent = tt
gather_each name names decoded k wide Failed = tt

gather_more : {A : Type 0} (name : List ℕ) (names : List (List ℕ)) (decoded : Result (List Unlinked) Status) (k : List Unlinked → Steps A) → ((bytes : List ℕ) → IsWide (gather (with_file decoded name (limited object_at bytes)) names >>= k))
    → IsWide (gather decoded (name ∷ names) >>= k)
unfolding IsWide ◌>>=◌
gather_more name names decoded k wide =
    (λ bytes. ap (λ r. gather (with_file decoded name r) names >>= k) (limited-take object_at 67108865 bytes refl), gather_each name names decoded k wide)

gather_wide : {A : Type 0} (names : List (List ℕ)) (decoded : Result (List Unlinked) Status) (k : List Unlinked → Steps A) → ((objects : List Unlinked) → IsWide (k objects)) → IsWide (gather decoded names >>= k)
gather_wide [] decoded k wide = given_wide decoded k wide
gather_wide (name ∷ names) decoded k wide = gather_more name names decoded k (λ bytes. gather_wide names (with_file decoded name (limited object_at bytes)) k wide)

link_wide : (names : List (List ℕ)) (output : List ℕ) → IsWide (link_script names output)
link_wide names output = gather_wide names (Ok []) _ (λ objects. linked_wide (linked objects) _ (λ image. save_wide _ _ _ (last_wide _)))

save_more : {A : Type 0} (file : File) (files : List File) (k : Unit {0} → Steps A) → IsWide (save_all files >>= k) → IsWide (save_all (file ∷ files) >>= k)
unfolding IsWide ◌>>=◌
save_more file files k wide = (tt, λ x. elim x as (λ y. IsWide ((saved file.name y >>= λ _. save_all files) >>= k)) [ true ↦ wide | false ↦ tt ])

none_saved : {A : Type 0} (k : Unit {0} → Steps A) → IsWide (k tt) → IsWide (save_all [] >>= k)
unfolding ◌>>=◌
none_saved k wide = wide

save_all_wide : {A : Type 0} (files : List File) (k : Unit {0} → Steps A) → IsWide (k tt) → IsWide (save_all files >>= k)
save_all_wide [] k wide = none_saved k wide
save_all_wide (file ∷ files) k wide = save_more file files k (save_all_wide files k wide)

gen_wide : (recipe : Recipe) → IsWide (gen_script recipe)
gen_wide recipe = save_all_wide (files_of recipe.seed recipe.modules) _ (last_wide _)

command_wide : (command : Command) → IsWide (command_script command)
command_wide (Build names) = build_wide names
command_wide (Check names) = check_wide names
command_wide (Units names limit) = units_wide names limit
command_wide (Run name steps) = run_wide name steps
command_wide (Dump name) = dump_wide name
command_wide (Link names output) = link_wide names output
command_wide (Gen recipe) = gen_wide recipe

pub request_wide : (request : Request) → IsWide (request_script request)
unfolding IsWide
request_wide Nothing = tt
request_wide (Named None) = tt
request_wide (Named (Some command)) = command_wide command
