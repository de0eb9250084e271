-- What stands in front of a text that was read, where its SHA-1 was found.
use Rattle.std.proofs.Common.{◌≡◌, ℕ, ◌+◌, List, length, drop, ap, ◌∙◌, arith}
use Rattle.std.specs.Prelude.{codes}
use Rattle.std.proofs.lemmas.List.{length-take, length-drop}
use Rattle.md5.specs.Md5.{md5}
use Rattle.sha1.specs.Sha1.{sha1}
use Rattle.fsfs_revision.specs.Rep.Frames.{text_of, IsWhole}
use Rattle.fsfs_revision.specs.declared.rep.frame.TheConstants.{PLAIN_LEN}
use Rattle.fsfs_revision.proofs.HeaderLemmas.{stands_fits}
use Rattle.fsfs_noderev.specs.declared.rep.Rep.{Rep}
use Rattle.fsfs_dump.specs.Records.{TextFacts, facts_of}

module _ (rep : Rep) (bytes : List ℕ) (whole : IsWhole rep bytes) where
  text_length : rep.length ≡ length (text_of rep bytes)
  text_length =
      let fits = stands_fits (codes "ENDREP\n") (rep.offset + PLAIN_LEN + rep.length) bytes (omega arith) whole.framed.trailer in
      omega (arith, fits, length-take rep.length (drop (rep.offset + PLAIN_LEN) bytes), length-drop (rep.offset + PLAIN_LEN) bytes)

  pub facts_named : (found : List ℕ) → found ≡ sha1 (text_of rep bytes) → (let f : TextFacts = record { size = rep.length; md5 = rep.md5.bytes; sha1 = found } in f) ≡ facts_of (text_of rep bytes)
  facts_named found is =
      ap (λ (n : ℕ). let f : TextFacts = record { size = n; md5 = rep.md5.bytes; sha1 = found } in f) text_length
      ∙ ap (λ (d : List ℕ). let f : TextFacts = record { size = length (text_of rep bytes); md5 = d; sha1 = found } in f) whole.agrees.md5
      ∙ ap (λ (d : List ℕ). let f : TextFacts = record { size = length (text_of rep bytes); md5 = md5 (text_of rep bytes); sha1 = d } in f) is
