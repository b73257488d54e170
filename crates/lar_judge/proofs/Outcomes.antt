-- What holds holds of a good outcome.
use Rattle.std.specs.Prelude.{Result, Ok, Err, OnOk}

pub on_ok_any : {T E P : Type 0} (r : Result T E) → P → OnOk r P
on_ok_any (Ok x) p = p
on_ok_any (Err e) p = tt
