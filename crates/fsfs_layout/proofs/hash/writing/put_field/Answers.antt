use Rattle.std.proofs.Common.{◌∷◌, [], refl, length}
use Rattle.fsfs_base.proofs.Readers.{appends_then, appends_mapped, appends_text, appends_bytes}
use Rattle.fsfs_layout.proofs.hash.writing.put_field.Goals as goal

pub returns : goal.returns
returns c =
    let bytes = c.args.bytes.now in
    appends_then (appends_text (c.args.letter ∷ 32 ∷ []) _ _ c.in_ok-extend_from_slice.ensures.items) (appends_then c.in_ok-put_decimal.ensures
    (appends_then (appends_bytes (length bytes) bytes _ _ refl c.in_ok-extend_from_slice-2.ensures.items) (appends_mapped (λ (_ : Unit {0}). bytes) (appends_text (10 ∷ []) _ _ c.in_ok-extend_from_slice-3.ensures.items))))
