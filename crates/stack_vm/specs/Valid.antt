-- An image that keeps the rules of the machine.
use Rattle.std.specs.Prelude.{◌≡◌, ℕ, List, map, Bool, None}
use Rattle.object_format.specs.Image.{Linked}
use Rattle.object_format.specs.declared.version.Version.{Version}
use Rattle.stack_vm.specs.Heights.{greatest_of}
use Rattle.stack_vm.specs.Faults.{image_fault}

-- a validated image, and whether the room for its run is taken
pub record Validated : Type 0 where
  pub image : Linked
  pub reserved : Bool

-- the image has no fault, and these are the greatest heights of its functions
pub record IsRunnable (i : Linked) (heights : List ℕ) : Type 0 where
  pub version : Version
  pub valid : image_fault version i ≡ None
  pub most : heights ≡ map (greatest_of i.functions) i.functions
