use Rattle.std.proofs.Common.{◌≡◌, ◌∙◌, List, ℕ, length, sym, ap, subst}
use Rattle.fsfs_base.specs.Grammar.Cuts.{Lacks}
use Rattle.fsfs_layout.proofs.Identifiers.{identifier_length, identifier_lacks}
use Rattle.fsfs_layout.specs.CreatedFiles.{identifier_text}
use Rattle.fsfs_create.proofs.initial.identifier_of.Goals as goal

pub copy_from_slice-requires : goal.copy_from_slice-requires
copy_from_slice-requires c =
    let text : c.as_bytes.result.now ≡ identifier_text c.args.identifier = c.as_bytes.ensures.value ∙ c.encode_lower-text.ensures.text ∙ ap identifier_text c.hyphenated.ensures in
    sym (ap length text ∙ identifier_length c.args.identifier)

pub new-requires : goal.new-requires
new-requires c =
    let text : c.as_bytes.result.now ≡ identifier_text c.args.identifier = c.as_bytes.ensures.value ∙ c.encode_lower-text.ensures.text ∙ ap identifier_text c.hyphenated.ensures in
    subst (λ (t : List ℕ). Lacks 10 t) (sym (c.copy_from_slice.ensures.after ∙ text)) (identifier_lacks c.args.identifier)
