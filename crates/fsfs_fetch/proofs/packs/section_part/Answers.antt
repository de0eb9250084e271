use Rattle.std.proofs.Common.{◌≡◌, ◌+◌, ℕ, List, length, take, refl, sym, ap, subst, ◌∙◌, arith}
use Rattle.std.specs.Prelude.{Option, Some, IfSome, codes}
use Rattle.std.proofs.lemmas.List.{length-take}
use Rattle.std.specs.FinMap as map
use Rattle.fsfs_disk.specs.Trace.{IsRead}
use Rattle.fsfs_layout.specs.Names.{in_pack}
use Rattle.fsfs_layout.specs.Layouts.{shard_of}
use Rattle.fsfs_fetch.specs.Answers.{Stays}
use Rattle.fsfs_fetch.proofs.FileLemmas.{read_stays}
use Rattle.fsfs_fetch.proofs.PackLemmas.{section_part_ok}
use Rattle.fsfs_fetch.proofs.packs.section_part.Goals as goal

pub returns-in-Some-clause-told : goal.returns-in-Some-clause-told
returns-in-Some-clause-told g c = λ pack s within.
    let v = g.R.Reads.view c.args.reads.now in
    let w = g.R.Reads.view c.read_at.new.reads in
    let count = c.fitting-count.result in
    let at = c.args.section.start + c.args.offset in
    let sub = take count c.args.buffer.now in
    let named : in_pack (shard_of v.layout c.args.rev) (codes "/pack") ≡ c.name.result = ap (λ k. in_pack k (codes "/pack")) (sym (c.shard_of-shard.ensures ∙ ap (λ l. shard_of l c.args.rev) c.layout-layout.ensures)) ∙ sym c.name.ensures in
    let t : Stays v c.name.result (Some pack) = subst (λ n. Stays v n (Some pack)) named s in
    let h = subst (λ o. IfSome w.files (λ m. IsRead (map.get m c.name.result) at sub c.read_at.new.buffer o)) c.in-Some.is c.in_ok-read_at.ensures.bytes in
    let P : Option (List ℕ) → Type 0 = λ f. IsRead f at sub c.read_at.new.buffer (Some c.in-Some.found) in
    let read = read_stays v w c.name.result (Some pack) P c.in_ok-read_at.ensures.later t h in
    let long : length sub ≡ count = length-take count c.args.buffer.now ∙ omega (arith, c.fitting-count.ensures) in
    section_part_ok pack c.args.buffer.now sub c.read_at.new.buffer _ c.args.rev c.args.offset at count c.in-Some.found c.args.section c.requires.within within refl (omega (arith, c.fitting-count.ensures)) long read c.read_at.auto.buffer refl
