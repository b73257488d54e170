-- A run of the machine is one text that is put, and then its end.
use Rattle.std.proofs.Common.{◌≡◌, inl, List, ℕ, Option, Some, Result, Ok, refl, sym, subst}
use Rattle.files.specs.FilesState.{FilesState}
use Rattle.scripts.specs.Following.{Follows}
use Rattle.scripts.specs.Outside.{Outside, seen}
use Rattle.scripts.proofs.Following.{follows_on, follows_err, puts_out, puts_out_wanted, puts_out_fell}
use Rattle.sinks.specs.SinkState.{SinkState, with_text}
use Rattle.stack_vm.specs.Acts.{Ran}
use Rattle.stack_vm.specs.Running.{RunLeaves}
use Rattle.stack_vm.specs.declared.end.End.{End as How}
use Rattle.stack_vm.specs.declared.end.End.TheVariants as how
use Rattle.larch_cli.specs.Commands.{end_gives, printed, reasons, run_end}
use Rattle.larch_cli.specs.declared.status.Status.{Status}
use Rattle.larch_cli.proofs.Following.{ends, stops}

-- all of the text was put
whole : (h : How) (result : Result (Unit {0}) Status) (wanted : Option Ran) (old new : SinkState) (files : FilesState) (err : SinkState) → ((o : Outside) → Follows reasons (run_end h) o o result)
    → (text : List ℕ) × (wanted ≡ Some (record { how = h; text = text })) × (new ≡ with_text text old) → Follows reasons (printed wanted) (seen files old err) (seen files new err) result
whole h result wanted old new files err end (text, is, put) =
    subst (λ w. Follows reasons (printed w) (seen files old err) (seen files new err) result) (sym is) (follows_on reasons _ _ _ _ _ _ _ (puts_out reasons text _ old new files err _ _ put (ends tt _)) (end _))

pub prints : (h : How) (wanted : Option Ran) (old new : SinkState) (files : FilesState) (err : SinkState) → RunLeaves wanted old new h → Follows reasons (printed wanted) (seen files old err) (seen files new err) (end_gives h)
prints how.WriteFault wanted old new files err p =
    subst (λ w. Follows reasons (printed w) (seen files old err) (seen files new err) (end_gives how.WriteFault)) (sym p.gives) (follows_err reasons _ _ _ _ _ (puts_out_fell reasons p.ran.text _ old new files err p.takes))
prints how.Memory wanted old new files err p =
    subst (λ w. Follows reasons (printed w) (seen files old err) (seen files new err) (end_gives how.Memory)) (sym p.gives) (follows_err reasons _ _ _ _ _ (puts_out_wanted reasons p.ran.text _ old new files err (inl p.takes)))
prints how.Ended wanted old new files err h = whole how.Ended (Ok tt) wanted old new files err (λ o. ends tt o) h
prints (how.Trapped kind function offset) wanted old new files err h = whole (how.Trapped kind function offset) _ wanted old new files err (λ o. stops _ _ _ o refl) h
prints how.OutOfSteps wanted old new files err h = whole how.OutOfSteps _ wanted old new files err (λ o. stops _ _ _ o refl) h
