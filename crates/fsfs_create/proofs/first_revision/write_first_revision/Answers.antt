use Rattle.std.proofs.Common.{◌≡◌, ◌++◌, List, ℕ, length, ap, subst, ◌∙◌, arith}
use Rattle.std.specs.Prelude.{codes}
use Rattle.fsfs_base.specs.Grammar.Relations.{Appends}
use Rattle.fsfs_layout.specs.Hash.Dump.{dump_text}
use Rattle.fsfs_revision.specs.Trailers.{IsTrailer}
use Rattle.fsfs_revision.proofs.FirstRevision.{root_text}
use Rattle.fsfs_create.specs.FirstRoot.{IsFirstRoot}
use Rattle.fsfs_create.proofs.FirstTexts.{first_root_text, first_trailer_text}
use Rattle.fsfs_create.proofs.first_revision.write_first_revision.Goals as goal

pub returns : goal.returns
returns c =
    let entries : c.in_ok-entries.entries.items ≡ codes "END\n" = c.in_ok-entries.ensures.text ∙ ap dump_text c.new.ensures in
    let front : c.extend_from_slice-2.new.self.items ≡ codes "PLAIN\nEND\nENDREP\n" =
    c.in_ok-extend_from_slice-2.ensures.items
    ∙ ap (λ (t : List ℕ). t ++ codes "ENDREP\n") (c.in_ok-extend_from_slice.ensures.items ∙ (λ i. c.in_ok-out.ensures.items i ++ (c.deref.ensures.value ∙ entries) i)) in
    let size : c.len.result ≡ 4 = omega (arith, ap length entries) in
    let root : c.len-root.result ≡ 17 = omega (arith, ap length front) in
    let first : IsFirstRoot 4 17 c.first_root-node.result =
    subst (λ (n : ℕ). IsFirstRoot n 17 c.first_root-node.result) size (subst (λ (n : ℕ). IsFirstRoot c.len.result n c.first_root-node.result) root c.first_root-node.ensures) in
    let text : c.in_ok-text.text.items ≡ root_text = first_root_text c.in_ok-text.text.items c.first_root-node.result first c.in_ok-text.ensures.lines in
    let body : c.extend_from_slice-3.new.self.items ≡ codes "PLAIN\nEND\nENDREP\n" ++ root_text = c.in_ok-extend_from_slice-3.ensures.items ∙ (λ i. front i ++ (c.deref-2.ensures.value ∙ text) i) in
    let changes : c.len-changes.result ≡ 107 = omega (arith, ap length body) in
    let added : Appends IsTrailer c.extend_from_slice-3.new.self.items c.put_trailer.new.out.items (17, 107) =
    subst (λ (p : ℕ × ℕ). Appends IsTrailer c.extend_from_slice-3.new.self.items c.put_trailer.new.out.items p) (λ i. (root i, changes i)) c.in_ok-put_trailer.ensures.added in
    first_trailer_text c.extend_from_slice-3.new.self.items c.put_trailer.new.out.items added ∙ ap (λ (t : List ℕ). t ++ codes "\n17 107\n") body
