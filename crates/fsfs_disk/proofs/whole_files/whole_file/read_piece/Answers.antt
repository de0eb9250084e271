use Rattle.std.proofs.Common.{◌≡◌, ℕ, List, ◌++◌, length, take, sym, ap, subst, ◌∙◌, arith}
use Rattle.std.specs.Prelude.{Some}
use Rattle.std.proofs.lemmas.Grind.{common_steps}
use Rattle.std.proofs.lemmas.List.{append-nil, length-take}
use Rattle.fsfs_disk.specs.Fronts.{IsFrontOf}
use Rattle.fsfs_disk.proofs.WholeFiles.{front_more, whole_file}
use Rattle.fsfs_disk.proofs.whole_files.whole_file.read_piece.Goals as goal

pub returns-clause-next : goal.returns-clause-next
returns-clause-next g c = λ file t front.
    let items = c.args.bytes.now.items in
    let new = c.read_part.new.buffer in
    let read = c.in_ok-count.ensures.bytes file t in
    let at : c.len.result ≡ length items = grind (arith, common_steps) in
    let all = c.in_ok-extend_from_slice.ensures.items in
    let more = front_more file items _ new c.len.result c.in-Some.count c.in_ok-count.field-0 front at read c.in-Some.is in (
      subst (λ more. IsFrontOf more file) (sym all) more,
      λ none.
          let found : c.in_ok-count.field-0 ≡ Some 0 = c.in-Some.is ∙ ap (λ (k : ℕ). Some k) none in
          let same : c.extend_from_slice.new.self.items ≡ items = all ∙ ap (λ (k : ℕ). items ++ take k new) none ∙ append-nil items in
          ap (λ (xs : List ℕ). Some xs) same ∙ whole_file file items _ new c.len.result c.in_ok-count.field-0 (omega (arith, c.min.ensures, length-take {A = ℕ})) front at read found,
    )
