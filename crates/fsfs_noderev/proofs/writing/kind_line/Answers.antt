use Rattle.std.proofs.Common.{refl, sym, subst}
use Rattle.std.specs.Prelude.{codes}
use Rattle.fsfs_base.specs.Grammar.Relations.{Appends}
use Rattle.fsfs_base.specs.declared.kind.Kind.{Kind}
use Rattle.fsfs_noderev.specs.Fields.{IsKindText}
use Rattle.fsfs_noderev.specs.Writing.{IsLineOf}
use Rattle.fsfs_noderev.proofs.writing.kind_line.Goals as goal

pub returns-in_ok-extend_from_slice-in-File : goal.returns-in_ok-extend_from_slice-in-File
returns-in_ok-extend_from_slice-in-File c = subst (λ (k : Kind). Appends (IsLineOf (codes "type") IsKindText) c.args.out.now.items c.extend_from_slice.new.self.items k) (sym c.in-File.is)
    (record { text = codes "type: file\n"; text_is = (codes "file", refl, refl); parts = c.in_ok-extend_from_slice-in-File.ensures.items })

pub returns-in_ok-extend_from_slice-in-Dir : goal.returns-in_ok-extend_from_slice-in-Dir
returns-in_ok-extend_from_slice-in-Dir c = subst (λ (k : Kind). Appends (IsLineOf (codes "type") IsKindText) c.args.out.now.items c.extend_from_slice-in-Dir.new.self.items k) (sym c.in-Dir.is)
    (record { text = codes "type: dir\n"; text_is = (codes "dir", refl, refl); parts = c.in_ok-extend_from_slice-in-Dir.ensures.items })
