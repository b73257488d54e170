-- How each command may end, by what was called and what failed on the way.
use Rattle.std.proofs.Common.{◌≡◌, ℕ, ◌+◌, ◌-◌, ◌≤◌, Bool, true, false, List, [], ◌∷◌, ◌++◌, map, length, Option, Some, None, Result, Ok, Err, refl, arith}
use Rattle.lar_source.specs.Diagnostic.{Diagnostic}
use Rattle.lar_source.specs.declared.file.File.{File}
use Rattle.lar_typed.specs.Trees.{PlainTree}
use Rattle.build_front.specs.Front.{fronted}
use Rattle.build_units.specs.Listed.{listed}
use Rattle.listings.specs.Listed.{listing_at}
use Rattle.object_format.specs.Image.{Linked}
use Rattle.object_format.specs.Object.{Unlinked}
use Rattle.object_format.specs.ObjectReading.{object_at}
use Rattle.object_format.specs.declared.fault.BadFile.{BadFile}
use Rattle.scripts.specs.History.{History, nothing_yet, Along, after}
use Rattle.scripts.specs.Outside.{Gave}
use Rattle.scripts.specs.Script.{End, Read, Write, Finding, Bytes, Absent, Failed, ◌>>=◌}
use Rattle.stack_vm.specs.Acts.{Ran, runs_of}
use Rattle.stack_vm.specs.declared.end.End.{End as How}
use Rattle.stack_vm.specs.declared.end.End.TheVariants as how
use Rattle.symbol_link.specs.Linked.{linked}
use Rattle.symbol_link.specs.declared.fault.LinkFault.{LinkFault}
use Rattle.source_gen.specs.Sources.{files_of}
use Rattle.words.specs.Recipes.{Recipe}
use Rattle.words.specs.declared.commands.Command.{Command}
use Rattle.words.specs.declared.commands.Command.TheVariants.{Build, Check, Units, Run, Dump, Link, Gen}
use Rattle.larch_cli.specs.Commands.{Steps, reasons, found, fetch, saved, save, say, or_stop, given, judged, linked_or, gather, gather_sources, fetch_sources, or_told, printed, run_end, build_script, check_script, units_script, run_script, dump_script, link_script, save_all, gen_script, command_script, Request, Nothing, Named, request_script, is_served}
use Rattle.larch_cli.specs.Plain.{reads_of, writes_of, most_reads, most_writes}
use Rattle.larch_cli.specs.Spelled.{accepted, limited, valid_image, with_file}
use Rattle.larch_cli.specs.declared.status.Status.{Status}
use Rattle.larch_cli.specs.declared.status.Status.TheVariants as status

abbrev pub NoFault : History → Type 0
NoFault h = (h.file_faults ≡ 0) × (h.put_faults ≡ 0)

-- What a status says of the history before it. Memory may be wanted at any place.
abbrev pub Caused : Bool → History → Result (Unit {0}) Status → Type 0
Caused served h (Ok x) = (served ≡ true) × NoFault h
Caused served h (Err (status.FileFault name)) = (served ≡ true) × (h.file_faults ≡ 1) × (h.put_faults ≡ 0)
Caused served h (Err status.SinkFault) = (served ≡ true) × (h.put_faults ≡ 1)
Caused served h (Err status.Memory) = h.put_faults ≡ 0
Caused served h (Err status.Usage) = (served ≡ false) × NoFault h × (h.writes ≡ 0)
Caused served h (Err s) = (served ≡ true) × NoFault h × (h.writes ≡ 0)

-- The same, of a command that makes so many reads and writes at most.
abbrev pub Ends : Bool → ℕ → ℕ → History → Result (Unit {0}) Status → Type 0
Ends served reads writes h result = (h.reads ≤ reads) × (h.writes ≤ writes) × Caused served h result

-- ---- the steps, where nothing failed before

abbrev read_once : ℕ → History → History
read_once n h = record h { reads = h.reads + 1; file_faults = h.file_faults + n }

abbrev wrote_once : ℕ → History → History
wrote_once n h = record h { writes = h.writes + 1; file_faults = h.file_faults + n }

abbrev put_once : ℕ → History → History
put_once n h = record h { put_faults = h.put_faults + n }

module _ (R W : ℕ) where
  -- Nothing failed so far, and no more was called than may be.
  pub record Clean (h : History) : Type 0 where
    pub reads : h.reads ≤ R
    pub writes : h.writes ≤ W
    pub file_faults : h.file_faults ≡ 0
    pub put_faults : h.put_faults ≡ 0

  -- And nothing was written.
  pub record Unwritten (h : History) : Type 0 where
    pub clean : Clean h
    pub none : h.writes ≡ 0

  unwritten_read : (h : History) → Unwritten h → h.reads + 1 ≤ R → Unwritten (read_once 0 h)
  unwritten_read h u more = record {
    clean = record { reads = omega (arith, more); writes = omega (arith, u.clean.writes); file_faults = omega (arith, u.clean.file_faults); put_faults = omega (arith, u.clean.put_faults) };
    none = omega (arith, u.none);
  }

  wanted : (h : History) → Clean h → Ends true R W h (Err status.Memory)
  wanted h c = (c.reads, c.writes, c.put_faults)

  fetch_each : (h : History) (name : List ℕ) (most : ℕ) (k : List ℕ → Steps (Unit {0})) → Unwritten (read_once 0 h) → ((bytes : List ℕ) → Along reasons (Ends true R W) (read_once 0 h) (k bytes))
      → (x : Finding) → Along reasons (Ends true R W) (after (Read name most) (Gave x) h) (found name x >>= k)
  unfolding Along ◌>>=◌
  fetch_each h name most k u next (Bytes bytes) = next bytes
  fetch_each h name most k u next Absent = ((u.clean.reads, u.clean.writes, (refl, (u.clean.file_faults, u.clean.put_faults), u.none)), wanted (read_once 0 h) u.clean)
  fetch_each h name most k u next Failed =
      ((u.clean.reads, u.clean.writes, (refl, omega (arith, u.clean.file_faults), u.clean.put_faults)), (u.clean.reads, u.clean.writes, u.clean.put_faults))

  pub fetch_ends : (h : History) (name : List ℕ) (most : ℕ) (k : List ℕ → Steps (Unit {0})) → Unwritten h → h.reads + 1 ≤ R → ((bytes : List ℕ) → Unwritten (read_once 0 h) → Along reasons (Ends true R W) (read_once 0 h) (k bytes))
      → Along reasons (Ends true R W) h (fetch name most >>= k)
  unfolding Along ◌>>=◌
  fetch_ends h name most k u more next =
      let v = unwritten_read h u more in
      (wanted h u.clean, wanted (read_once 0 h) v.clean, λ f. absurd f, fetch_each h name most k v (λ bytes. next bytes v))

  save_each : (h : History) (name bytes : List ℕ) (k : Unit {0} → Steps (Unit {0})) → Clean (wrote_once 0 h) → Along reasons (Ends true R W) (wrote_once 0 h) (k tt)
      → (x : Bool) → Along reasons (Ends true R W) (after (Write name bytes) (Gave x) h) (saved name x >>= k)
  unfolding Along ◌>>=◌
  save_each h name bytes k c next true = next
  save_each h name bytes k c next false = ((c.reads, c.writes, (refl, omega (arith, c.file_faults), c.put_faults)), (c.reads, c.writes, c.put_faults))

  pub save_ends : (h : History) (name bytes : List ℕ) (k : Unit {0} → Steps (Unit {0})) → Clean h → h.writes + 1 ≤ W → (Clean (wrote_once 0 h) → Along reasons (Ends true R W) (wrote_once 0 h) (k tt)) → Along reasons (Ends true R W) h (save name bytes >>= k)
  unfolding Along ◌>>=◌
  save_ends h name bytes k c more next =
      let d : Clean (wrote_once 0 h) = record { reads = omega (arith, c.reads); writes = omega (arith, more); file_faults = omega (arith, c.file_faults); put_faults = omega (arith, c.put_faults) } in
      (wanted h c, wanted (wrote_once 0 h) d, λ f. absurd f, save_each h name bytes k d (next d))

  pub say_ends : (h : History) (text : List ℕ) (k : Unit {0} → Steps (Unit {0})) → Clean h → (Clean (put_once 0 h) → Along reasons (Ends true R W) (put_once 0 h) (k tt)) → Along reasons (Ends true R W) h (say text >>= k)
  unfolding Along ◌>>=◌
  say_ends h text k c next =
      let d : Clean (put_once 0 h) = record { reads = c.reads; writes = c.writes; file_faults = c.file_faults; put_faults = omega (arith, c.put_faults) } in
      (wanted h c, wanted (put_once 0 h) d, λ f. (c.reads, c.writes, (refl, omega (arith, c.put_faults))), λ x. next d)

  pub done_ends : (h : History) → Clean h → Along reasons (Ends true R W) h (End tt)
  unfolding Along
  done_ends h c = ((c.reads, c.writes, (refl, (c.file_faults, c.put_faults))), wanted h c)

  -- the last line
  pub last_ends : (h : History) (text : List ℕ) → Clean h → Along reasons (Ends true R W) h (say text)
  unfolding Along
  last_ends h text c =
      let d : Clean (put_once 0 h) = record { reads = c.reads; writes = c.writes; file_faults = c.file_faults; put_faults = omega (arith, c.put_faults) } in
      (wanted h c, wanted (put_once 0 h) d, λ f. (c.reads, c.writes, (refl, omega (arith, c.put_faults))), λ x. done_ends (put_once 0 h) d)

  pub or_stop_ends : {X : Type 0} (h : History) (o : Option X) (k : X → Steps (Unit {0})) → Unwritten h → ((x : X) → Along reasons (Ends true R W) h (k x)) → Along reasons (Ends true R W) h (or_stop status.Unsupported o >>= k)
  unfolding Along ◌>>=◌
  or_stop_ends h (Some x) k u next = next x
  or_stop_ends h None k u next = ((u.clean.reads, u.clean.writes, (refl, (u.clean.file_faults, u.clean.put_faults), u.none)), wanted h u.clean)

  pub judged_ends : {X : Type 0} (h : History) (name : List ℕ) (r : Result X BadFile) (k : X → Steps (Unit {0})) → Unwritten h → ((x : X) → Along reasons (Ends true R W) h (k x)) → Along reasons (Ends true R W) h (judged name r >>= k)
  unfolding Along ◌>>=◌
  judged_ends h name (Ok x) k u next = next x
  judged_ends h name (Err fault) k u next = ((u.clean.reads, u.clean.writes, (refl, (u.clean.file_faults, u.clean.put_faults), u.none)), wanted h u.clean)

  pub linked_ends : (h : History) (r : Result Linked LinkFault) (k : Linked → Steps (Unit {0})) → Unwritten h → ((x : Linked) → Along reasons (Ends true R W) h (k x)) → Along reasons (Ends true R W) h (linked_or r >>= k)
  unfolding Along ◌>>=◌
  linked_ends h (Ok x) k u next = next x
  linked_ends h (Err fault) k u next = ((u.clean.reads, u.clean.writes, (refl, (u.clean.file_faults, u.clean.put_faults), u.none)), wanted h u.clean)

  pub begins : Unwritten nothing_yet
  begins = record { clean = record { reads = omega arith; writes = omega arith; file_faults = refl; put_faults = refl }; none = refl }

  -- ---- the end of a run

  ended : (h : History) (w : How) → Unwritten h → Along reasons (Ends true R W) h (run_end w)
  unfolding Along
  ended h how.Ended u = done_ends h u.clean
  ended h (how.Trapped kind function offset) u = ((u.clean.reads, u.clean.writes, (refl, (u.clean.file_faults, u.clean.put_faults), u.none)), wanted h u.clean)
  ended h w u = ((u.clean.reads, u.clean.writes, (refl, (u.clean.file_faults, u.clean.put_faults), u.none)), wanted h u.clean)

  pub printed_ends : (h : History) (ran : Option Ran) → Unwritten h → Along reasons (Ends true R W) h (printed ran)
  unfolding Along
  printed_ends h None u = ((u.clean.reads, u.clean.writes, (refl, (u.clean.file_faults, u.clean.put_faults), u.none)), wanted h u.clean)
  printed_ends h (Some ran) u = say_ends h ran.text _ u.clean (λ d. ended (put_once 0 h) ran.how (record { clean = d; none = u.none }))

  -- ---- files that are read one after the other

  -- what files so far come to: their objects, or a bad file
  abbrev IsBad : Result (List Unlinked) Status → Type 0
  IsBad (Ok objects) = Unit {0}
  IsBad (Err (status.BadFile name fault)) = Unit {0}
  IsBad (Err s) = ⊥

  bad_on : (decoded : Result (List Unlinked) Status) (name : List ℕ) (spelled : Result Unlinked BadFile) → IsBad decoded → IsBad (with_file decoded name spelled)
  bad_on (Ok objects) name (Ok object) b = tt
  bad_on (Ok objects) name (Err fault) b = tt
  bad_on (Err s) name spelled b = b

  given_ends : (h : History) (decoded : Result (List Unlinked) Status) (k : List Unlinked → Steps (Unit {0})) → IsBad decoded → Unwritten h → ((h : History) → Unwritten h → (objects : List Unlinked) → Along reasons (Ends true R W) h (k objects))
      → Along reasons (Ends true R W) h (given decoded >>= k)
  unfolding Along ◌>>=◌
  given_ends h (Ok objects) k b u next = next h u objects
  given_ends h (Err (status.BadFile name fault)) k b u next = ((u.clean.reads, u.clean.writes, (refl, (u.clean.file_faults, u.clean.put_faults), u.none)), wanted h u.clean)
  given_ends h (Err s) k b u next = absurd b

  -- one file, and the rest behind it
  gather_more : (h : History) (name : List ℕ) (names : List (List ℕ)) (decoded : Result (List Unlinked) Status) (k : List Unlinked → Steps (Unit {0}))
      → Along reasons (Ends true R W) h (fetch name 67108865 >>= λ bytes. gather (with_file decoded name (limited object_at bytes)) names >>= k) → Along reasons (Ends true R W) h (gather decoded (name ∷ names) >>= k)
  unfolding Along ◌>>=◌
  gather_more h name names decoded k a = (
    a.0,
    a.1,
    a.2,
    λ x. elim x as (λ y. Along reasons (Ends true R W) (after (Read name 67108865) (Gave y) h) ((found name y >>= λ bytes. gather (with_file decoded name (limited object_at bytes)) names) >>= k)) [
      | Bytes bytes ↦ a.3 (Bytes bytes)
      | Absent ↦ a.3 Absent
      | Failed ↦ a.3 Failed
    ],
  )

  pub gather_ends : (h : History) (names : List (List ℕ)) (decoded : Result (List Unlinked) Status) (k : List Unlinked → Steps (Unit {0})) → IsBad decoded → Unwritten h → h.reads + length names ≤ R
      → ((h : History) → Unwritten h → (objects : List Unlinked) → Along reasons (Ends true R W) h (k objects)) → Along reasons (Ends true R W) h (gather decoded names >>= k)
  gather_ends h [] decoded k b u more next = given_ends h decoded k b u next
  gather_ends h (name ∷ names) decoded k b u more next =
      gather_more h name names decoded k (fetch_ends h name 67108865 _ u (omega (arith, more)) (λ bytes v. gather_ends (read_once 0 h) names (with_file decoded name (limited object_at bytes)) k (bad_on decoded name (limited object_at bytes) b) v (omega (arith, more)) next))

  told_ends : {X : Type 0} (h : History) (r : Result X Diagnostic) (k : X → Steps (Unit {0})) → Unwritten h → ((x : X) → Along reasons (Ends true R W) h (k x)) → Along reasons (Ends true R W) h (or_told r >>= k)
  unfolding Along ◌>>=◌
  told_ends h (Ok x) k u next = next x
  told_ends h (Err d) k u next = ((u.clean.reads, u.clean.writes, (refl, (u.clean.file_faults, u.clean.put_faults), u.none)), wanted h u.clean)

  -- one source, and the rest after it
  sources_more : (h : History) (left : ℕ) (files : List File) (name : List ℕ) (names : List (List ℕ)) (k : List File → Steps (Unit {0}))
      → Along reasons (Ends true R W) h (fetch name left >>= λ bytes. gather_sources (left - length bytes) (files ++ record { name = name; bytes = bytes } ∷ []) names >>= k) → Along reasons (Ends true R W) h (gather_sources left files (name ∷ names) >>= k)
  unfolding Along ◌>>=◌
  sources_more h left files name names k a = (
    a.0,
    a.1,
    a.2,
    λ x. elim x as (λ y. Along reasons (Ends true R W) (after (Read name left) (Gave y) h) ((found name y >>= λ bytes. gather_sources (left - length bytes) (files ++ record { name = name; bytes = bytes } ∷ []) names) >>= k)) [
      | Bytes bytes ↦ a.3 (Bytes bytes)
      | Absent ↦ a.3 Absent
      | Failed ↦ a.3 Failed
    ],
  )

  none_left : (h : History) (left : ℕ) (files : List File) (k : List File → Steps (Unit {0})) → Along reasons (Ends true R W) h (k files) → Along reasons (Ends true R W) h (gather_sources left files [] >>= k)
  unfolding ◌>>=◌
  none_left h left files k a = a

  sources_ends : (h : History) (left : ℕ) (files : List File) (names : List (List ℕ)) (k : List File → Steps (Unit {0})) → Unwritten h → h.reads + length names ≤ R
      → ((h : History) → Unwritten h → (files : List File) → Along reasons (Ends true R W) h (k files)) → Along reasons (Ends true R W) h (gather_sources left files names >>= k)
  sources_ends h left files [] k u more next = none_left h left files k (next h u files)
  sources_ends h left files (name ∷ names) k u more next =
      sources_more h left files name names k (fetch_ends h name left _ u (omega (arith, more)) (λ bytes v. sources_ends (read_once 0 h) (left - length bytes) (files ++ record { name = name; bytes = bytes } ∷ []) names k v (omega (arith, more)) next))

  -- ---- files that are written one after the other

  save_more : (h : History) (file : File) (files : List File) (k : Unit {0} → Steps (Unit {0})) → Along reasons (Ends true R W) h (save file.name file.bytes >>= λ _. save_all files >>= k) → Along reasons (Ends true R W) h (save_all (file ∷ files) >>= k)
  unfolding Along ◌>>=◌
  save_more h file files k a = (a.0, a.1, a.2, λ x. elim x as (λ y. Along reasons (Ends true R W) (after (Write file.name file.bytes) (Gave y) h) ((saved file.name y >>= λ _. save_all files) >>= k)) [ true ↦ a.3 true | false ↦ a.3 false ])

  none_saved : (h : History) (k : Unit {0} → Steps (Unit {0})) → Along reasons (Ends true R W) h (k tt) → Along reasons (Ends true R W) h (save_all [] >>= k)
  unfolding ◌>>=◌
  none_saved h k a = a

  pub save_all_ends : (h : History) (files : List File) (k : Unit {0} → Steps (Unit {0})) → Clean h → h.writes + length files ≤ W → ((h : History) → Clean h → Along reasons (Ends true R W) h (k tt)) → Along reasons (Ends true R W) h (save_all files >>= k)
  save_all_ends h [] k c more next = none_saved h k (next h c)
  save_all_ends h (file ∷ files) k c more next =
      save_more h file files k (save_ends h file.name file.bytes _ c (omega (arith, more)) (λ d. save_all_ends (wrote_once 0 h) files k d (omega (arith, more)) next))

-- ---- the commands

check_ends : (names : List (List ℕ)) → Along reasons (Ends true (length names) 0) nothing_yet (check_script names)
check_ends names =
    sources_ends (length names) 0 nothing_yet 16777217 [] names _ (begins (length names) 0) (omega arith)
    (λ h u files. told_ends (length names) 0 h (fronted files) _ u (λ tree. last_ends (length names) 0 h _ u.clean))

units_ends : (names : List (List ℕ)) (limit : ℕ) → Along reasons (Ends true (length names) 0) nothing_yet (units_script names limit)
units_ends names limit =
    sources_ends (length names) 0 nothing_yet 16777217 [] names _ (begins (length names) 0) (omega arith)
    (λ h u files. told_ends (length names) 0 h (fronted files) _ u (λ tree. told_ends (length names) 0 h (listed (map (λ f. f.name) files) limit tree) _ u (λ text. last_ends (length names) 0 h text u.clean)))

build_ends : (names : List (List ℕ)) → Along reasons (Ends true (length names) 1) nothing_yet (build_script names)
build_ends names =
    sources_ends (length names) 1 nothing_yet 16777217 [] names _ (begins (length names) 1) (omega arith)
    (λ h u files. told_ends (length names) 1 h (fronted files) _ u
    (λ tree. or_stop_ends (length names) 1 h (accepted files) _ u (λ numbers. save_ends (length names) 1 h _ _ _ u.clean (omega (arith, u.none)) (λ c. last_ends (length names) 1 _ _ c))))

run_ends : (name : List ℕ) (steps : ℕ) → Along reasons (Ends true 1 0) nothing_yet (run_script name steps)
run_ends name steps = fetch_ends 1 0 nothing_yet _ _ _ (begins 1 0) (omega arith) (λ bytes u. judged_ends 1 0 _ name (limited valid_image bytes) _ u (λ image. printed_ends 1 0 _ (runs_of image steps) u))

dump_ends : (name : List ℕ) → Along reasons (Ends true 1 0) nothing_yet (dump_script name)
dump_ends name = fetch_ends 1 0 nothing_yet _ _ _ (begins 1 0) (omega arith) (λ bytes u. judged_ends 1 0 _ name (limited listing_at bytes) _ u (λ text. last_ends 1 0 _ text u.clean))

link_ends : (names : List (List ℕ)) (output : List ℕ) → Along reasons (Ends true (length names) 1) nothing_yet (link_script names output)
link_ends names output =
    gather_ends (length names) 1 nothing_yet names (Ok []) _ tt (begins (length names) 1) (omega arith)
    (λ h u objects. linked_ends (length names) 1 h (linked objects) _ u (λ image. save_ends (length names) 1 h _ _ _ u.clean (omega (arith, u.none)) (λ c. last_ends (length names) 1 _ _ c)))

gen_ends : (recipe : Recipe) → Along reasons (Ends true 0 (writes_of (Gen recipe))) nothing_yet (gen_script recipe)
gen_ends recipe =
    let count = length (files_of recipe.seed recipe.modules) in
    save_all_ends 0 count nothing_yet (files_of recipe.seed recipe.modules) _ (begins 0 count).clean (omega arith) (λ h c. last_ends 0 count h _ c)

command_ends : (command : Command) → Along reasons (Ends true (reads_of command) (writes_of command)) nothing_yet (command_script command)
command_ends (Build names) = build_ends names
command_ends (Check names) = check_ends names
command_ends (Units names limit) = units_ends names limit
command_ends (Run name steps) = run_ends name steps
command_ends (Dump name) = dump_ends name
command_ends (Link names output) = link_ends names output
command_ends (Gen recipe) = gen_ends recipe

pub request_ends : (request : Request) → Along reasons (Ends (is_served request) (most_reads request) (most_writes request)) nothing_yet (request_script request)
unfolding Along
request_ends Nothing = ((omega arith, omega arith, (refl, (refl, refl))), (omega arith, omega arith, refl))
request_ends (Named None) = ((omega arith, omega arith, (refl, (refl, refl), refl)), (omega arith, omega arith, refl))
request_ends (Named (Some command)) = command_ends command
