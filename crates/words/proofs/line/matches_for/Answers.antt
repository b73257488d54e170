use Rattle.std.proofs.Common.{◌≡◌, ◌∙◌, sym, ap, subst, true≢false, [], map, string_bytes, inl, inr}
use Rattle.clap.specs.Words.{App, IsAmong, app_of, fault_of, is_simple, is_simple_and_free, kind_of, matches_of}
use Rattle.words.specs.Lines as spec
use Rattle.words.proofs.Apps.{free_app, simple_app}
use Rattle.words.proofs.line.matches_for.Goals as goal

pub returns-in-Ok : goal.returns-in-Ok
returns-in-Ok c =
    let is_command = c.in_ok-command.ensures in
    let texts = map (λ word. string_bytes word) c.args.words.now in (
      ap (λ (a : App). fault_of a texts) (sym is_command) ∙ c.in-Ok.ensures.kinds (ap is_simple_and_free is_command ∙ free_app (map spec.choice_shown c.args.table.now)),
      (c.in-Ok.ensures.matches (ap is_simple is_command ∙ simple_app (map spec.choice_shown c.args.table.now))).0 ∙ ap (λ (a : App). matches_of a texts) is_command,
    )

pub returns : goal.returns
returns c none =
    let is_command = c.in_ok-command.ensures in
    let texts = map (λ word. string_bytes word) c.args.words.now in
    let free : fault_of (app_of c.in_ok-command.command) texts ≡ [] = ap (λ (a : App). fault_of a texts) is_command ∙ none in
    elim (c.in-Err.ensures.kinds (ap is_simple_and_free is_command ∙ free_app (map spec.choice_shown c.args.table.now))) [
      | inl memory ↦
          let is_memory = c.kind.ensures ∙ memory in
          let same = rw is_memory at c.eq.ensures in
          absurd (true≢false (sym same ∙ c.if-eq.false))
      | inr among ↦ subst (IsAmong (kind_of c.in-Err.error)) free among
    ]
