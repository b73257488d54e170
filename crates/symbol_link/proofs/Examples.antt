-- What the definitions compute on worked objects.
use Rattle.std.proofs.Common.{◌≡◌, [], ◌∷◌, Ok, Err, refl, true, false}
use Rattle.std.specs.Prelude.{codes}
use Rattle.object_format.specs.Code.{instructions}
use Rattle.object_format.specs.Object.{Unlinked, UnlinkedFn}
use Rattle.symbol_link.specs.declared.fault.LinkFault.TheVariants.{Twice, Undefined, NoEntry}
use Rattle.symbol_link.specs.Relocation.{relocated}
use Rattle.symbol_link.specs.Linked.{linked}

unfoldable pub main_alone : Unlinked
main_alone = record { functions = record { symbol = codes "main::main"; external = true; params = 0; «result» = 0; slots = 0; code = 0x01 ∷ 0x07 ∷ 0x17 ∷ 0x16 ∷ [] } ∷ []; externals = [] }

-- adds 1 to its argument
unfoldable pub inc : UnlinkedFn
inc = record { symbol = codes "main::inc"; external = false; params = 1; «result» = 1; slots = 1; code = 0x03 ∷ 0 ∷ 0x01 ∷ 1 ∷ 0x06 ∷ 0x16 ∷ 0x18 ∷ [] }

unfoldable pub b : Unlinked
b = record {
  functions = record { symbol = codes "b::go"; external = true; params = 0; «result» = 0; slots = 0; code = 0x01 ∷ 2 ∷ 0x15 ∷ 0 ∷ 0 ∷ 0 ∷ 1 ∷ 0x17 ∷ 0x16 ∷ [] } ∷ inc ∷ [];
  externals = [];
}

unfoldable pub m : Unlinked
m = record {
  functions = record { symbol = codes "main::main"; external = true; params = 0; «result» = 0; slots = 0; code = 0x01 ∷ 1 ∷ 0x15 ∷ 0 ∷ 0 ∷ 0 ∷ 1 ∷ 0x17 ∷ 0x15 ∷ 0 ∷ 0 ∷ 0 ∷ 2 ∷ 0x16 ∷ [] } ∷ inc ∷ [];
  externals = codes "b::go" ∷ [];
}

unfoldable pub nothing : Unlinked
nothing = record { functions = []; externals = [] }

pub linked-main_alone : linked (main_alone ∷ []) ≡ Ok (record { entry = 0; functions = record { params = 0; «result» = 0; slots = 0; code = 0x01 ∷ 0x07 ∷ 0x17 ∷ 0x16 ∷ [] } ∷ [] })
unfolding linked main_alone relocated instructions
linked-main_alone = refl

pub linked-twice : linked (main_alone ∷ main_alone ∷ []) ≡ Err (Twice (codes "main::main") 0 1)
unfolding linked main_alone
linked-twice = refl

pub linked-nothing : linked (nothing ∷ []) ≡ Err NoEntry
unfolding linked nothing
linked-nothing = refl

pub linked-both : linked (b ∷ m ∷ []) ≡ Ok (record {
  entry = 2;
  functions =
      record { params = 0; «result» = 0; slots = 0; code = 0x01 ∷ 2 ∷ 0x15 ∷ 0 ∷ 0 ∷ 0 ∷ 1 ∷ 0x17 ∷ 0x16 ∷ [] }
      ∷ record { params = 1; «result» = 1; slots = 1; code = 0x03 ∷ 0 ∷ 0x01 ∷ 1 ∷ 0x06 ∷ 0x16 ∷ 0x18 ∷ [] }
      ∷ record { params = 0; «result» = 0; slots = 0; code = 0x01 ∷ 1 ∷ 0x15 ∷ 0 ∷ 0 ∷ 0 ∷ 3 ∷ 0x17 ∷ 0x15 ∷ 0 ∷ 0 ∷ 0 ∷ 0 ∷ 0x16 ∷ [] }
      ∷ record { params = 1; «result» = 1; slots = 1; code = 0x03 ∷ 0 ∷ 0x01 ∷ 1 ∷ 0x06 ∷ 0x16 ∷ 0x18 ∷ [] }
      ∷ [];
})
unfolding linked b m inc relocated instructions
linked-both = refl

pub linked-undefined : linked (m ∷ []) ≡ Err (Undefined (codes "b::go") 0)
unfolding linked m inc
linked-undefined = refl
