-- A representation and a dump are read in one way at most.
use Rattle.std.proofs.Common.{◌≡◌, ℕ, List, sym, ◌∙◌}
use Rattle.fsfs_revision.specs.Damage.Readings.{HasOneAnswer}
use Rattle.fsfs_revision.proofs.OneAnswer.{and_then_one, judged_one}
use Rattle.fsfs_revision.specs.Told.{RevisionBytes, BytesOf}
use Rattle.fsfs_base.proofs.Readers.{all_again}
use Rattle.fsfs_noderev.specs.declared.rep.Rep.{Rep}
use Rattle.fsfs_layout.specs.Hash.Dump.{IsDump}
use Rattle.fsfs_layout.specs.Hash.Reading.{dump_at}
use Rattle.fsfs_layout.proofs.Dumps.{dump_reads, pairs_same}
use Rattle.fsfs_revision.specs.Rep.Frames.{rev_of, rep_checks, IsTextOf, RepIn}
use Rattle.fsfs_revision.proofs.FaultLemmas.{whole_pass}
use Rattle.fsfs_revision.specs.Shows.Reading.{RepAt, Pairs, hash_checks, PairsIn, PairsAt}
use Rattle.fsfs_revision.proofs.OneStep.{bytes_one}

rep_in_one : (rep : Rep) (bytes : List ℕ) → HasOneAnswer (RepIn rep bytes)
rep_in_one rep bytes = judged_one (IsTextOf rep bytes) (rep_checks rep bytes) (λ s t a b. a.0 ∙ sym b.0) (λ s a. whole_pass rep bytes a.1)

pub rep_at_one : (look : RevisionBytes) (rep : Rep) → HasOneAnswer (RepAt look rep)
rep_at_one look rep = and_then_one (BytesOf look (rev_of rep)) (RepIn rep) (bytes_one look (rev_of rep)) (rep_in_one rep)

-- ---- a dump

pub dump_one : (text : List ℕ) (a b : Pairs) → IsDump text a → IsDump text b → a ≡ b
dump_one text a b g h = pairs_same (dump_at text) a b (all_again dump_reads text a g) (all_again dump_reads text b h)

pairs_in_one : (rep : Rep) (text : List ℕ) → HasOneAnswer (PairsIn rep text)
pairs_in_one rep text = judged_one (IsDump text) (hash_checks rep text) (dump_one text) (λ pairs a. ((pairs, a), tt))

pub pairs_at_one : (look : RevisionBytes) (rep : Rep) → HasOneAnswer (PairsAt look rep)
pairs_at_one look rep = and_then_one (RepAt look rep) (PairsIn rep) (rep_at_one look rep) (pairs_in_one rep)
