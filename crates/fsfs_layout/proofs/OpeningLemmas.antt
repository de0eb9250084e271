-- What one opening says, every opening says.
use Rattle.std.proofs.Common.{◌≡◌, List, ℕ, sym, subst, ◌∙◌}
use Rattle.std.proofs.lemmas.Option.{same_Some}
use Rattle.fsfs_base.proofs.Readers.{all_again, ok_is}
use Rattle.fsfs_layout.specs.Formats.{IsFormat}
use Rattle.fsfs_layout.specs.Small.{IsUuid}
use Rattle.fsfs_layout.specs.Opening.{SmallTexts, SaysFormat, IsOpened}
use Rattle.fsfs_layout.specs.declared.small_files.format_file.FormatFile.{FormatFile}
use Rattle.fsfs_layout.specs.declared.small_files.format_file.FormatFile.TheVariants.{Known}
use Rattle.fsfs_layout.specs.declared.layout.Layout.{Layout}
use Rattle.fsfs_layout.specs.declared.opened.Opened.{Opened}
use Rattle.fsfs_layout.proofs.Files.{one_format, rev_line_reads, uuid_reads}

known_same : (a b : Layout) → Known a ≡ Known b → a ≡ b
known_same a b e = cc

pub one_youngest : (s : SmallTexts) (o p : Opened) → IsOpened s o → IsOpened s p → o.youngest ≡ p.youngest
one_youngest s o p a b =
    ok_is o.youngest p.youngest (sym (all_again rev_line_reads s.current o.youngest a.behind.youngest) ∙ all_again rev_line_reads s.current p.youngest b.behind.youngest)

-- the format says one thing
pub says_one : (s : SmallTexts) (f g : FormatFile) → SaysFormat s f → SaysFormat s g → f ≡ g
says_one s f g a b =
    let text = same_Some a.0 b.0 (sym a.1.there ∙ b.1.there) in
    one_format a.0 f g a.2 (subst (λ (t : List ℕ). IsFormat t g) (sym text) b.2)

pub one_layout : (s : SmallTexts) (o p : Opened) → IsOpened s o → IsOpened s p → o.layout ≡ p.layout
one_layout s o p a b = known_same o.layout p.layout (says_one s (Known o.layout) (Known p.layout) a.format b.format)

-- an identifier's line has one identifier
pub same_uuid : (s u v : List ℕ) → IsUuid s u → IsUuid s v → u ≡ v
same_uuid s u v a b = ok_is u v (sym (all_again uuid_reads s u a) ∙ all_again uuid_reads s v b)
