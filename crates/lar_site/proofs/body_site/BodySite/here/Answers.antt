use Rattle.std.proofs.Common.{◌∙◌, ap, refl}
use Rattle.type_sizes.specs.Spelling.{struct_text, generic_text}
use Rattle.lar_written.specs.Sites.{generics_view}
use Rattle.lar_signatures.proofs.ByNumber.{printed_by_number}
use Rattle.lar_site.proofs.Names.{generic_names}
use Rattle.lar_site.proofs.body_site.BodySite.here.Goals as goal

pub returns : goal.returns
returns c = λ rows st. record {
  file = refl;
  structs = λ n. ap (λ ds. struct_text ds n) c.as_slice.ensures ∙ printed_by_number rows c.args.self.now.written.names.now c.args.self.now.signatures.now n st;
  generics = λ k. ap (λ ts. generic_text ts k) c.requires ∙ generic_names (generics_view c.args.self.now.written.generics.now) k;
}
