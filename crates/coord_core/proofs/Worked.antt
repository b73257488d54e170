-- Worked runs of the definition, computed: two lanes and one token, two failures of which the lesser comes last, and a refusal after which the run keeps going.
use Rattle.std.proofs.Common.{◌≡◌, ℕ, true, false, List, [], ◌∷◌, Some, None, refl}
use Rattle.coord_core.specs.declared.event.Event.{Event}
use Rattle.coord_core.specs.declared.event.Event.TheVariants.{Took, Generated, GenFailed, Made, MakeFailed, Gave}
use Rattle.coord_core.specs.declared.event.Main.{Main}
use Rattle.coord_core.specs.declared.event.Main.TheVariants.{Idle, Generate, Lend}
use Rattle.coord_core.specs.declared.event.Actions.{Actions}
use Rattle.coord_core.specs.Run.{run, answers, is_finished}
use Rattle.coord_core.specs.Journal.{least, failed}
use Rattle.coord_core.specs.Core.{terms_of}

-- the slot is for this, and nothing else is to be done
abbrev slot : Main → Actions
slot m = record { pass = None; start = None; give = None; main = m; ask = false }

abbrev lend_and_ask : ℕ → Actions
lend_and_ask i = record { pass = None; start = None; give = None; main = Lend i; ask = true }

abbrev pass_and_generate : ℕ → ℕ → ℕ → Actions
pass_and_generate b i k = record { pass = Some (b, i); start = None; give = None; main = Generate k; ask = false }

abbrev gives_back : ℕ → Actions
gives_back b = record { pass = None; start = None; give = Some b; main = Idle; ask = false }

abbrev one_token : List Event
one_token = Generated 0 9 ∷ Took 97 ∷ Generated 1 4 ∷ Made 0 ∷ Generated 2 7 ∷ Made 1 ∷ Gave 97 ∷ Made 2 ∷ []

one_token-answers : answers (terms_of 3 2 false) one_token ≡ slot (Generate 0) ∷ lend_and_ask 0 ∷ pass_and_generate 97 0 1 ∷ slot (Lend 1) ∷ pass_and_generate 97 1 2 ∷ slot (Lend 2) ∷ gives_back 97 ∷ slot Idle ∷ slot Idle ∷ []
one_token-answers = refl

one_token-finished : is_finished (run (terms_of 3 2 false) one_token) ≡ true
one_token-finished = refl

abbrev two_failures : List Event
two_failures = Generated 0 1 ∷ Took 97 ∷ Generated 1 5 ∷ Made 0 ∷ Generated 2 3 ∷ Made 2 ∷ GenFailed 3 ∷ MakeFailed 1 ∷ Gave 97 ∷ []

two_failures-answers : answers (terms_of 4 2 false) two_failures ≡ slot (Generate 0) ∷ lend_and_ask 0 ∷ pass_and_generate 97 0 1 ∷ slot (Lend 1) ∷ pass_and_generate 97 1 2 ∷ slot (Lend 2) ∷ slot (Generate 3) ∷ slot Idle ∷ gives_back 97 ∷ slot Idle ∷ []
two_failures-answers = refl

two_failures-least : least (failed two_failures) ≡ Some 1
two_failures-least = refl

two_failures-bar : (run (terms_of 4 2 false) two_failures).bar ≡ 1
two_failures-bar = refl

abbrev refused_first : List Event
refused_first = GenFailed 0 ∷ Generated 1 5 ∷ Made 1 ∷ []

refused_first-answers : answers (terms_of 2 1 true) refused_first ≡ slot (Generate 0) ∷ slot (Generate 1) ∷ slot (Lend 1) ∷ slot Idle ∷ []
refused_first-answers = refl

refused_first-finished : is_finished (run (terms_of 2 1 true) refused_first) ≡ true
refused_first-finished = refl

refused_first-least : least (failed refused_first) ≡ Some 0
refused_first-least = refl

refused_first-stops : is_finished (run (terms_of 2 1 false) (GenFailed 0 ∷ [])) ≡ true
refused_first-stops = refl
