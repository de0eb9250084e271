-- What turns tell one who reads, as a book tells it.
use Rattle.std.proofs.Common.{◌≡◌, ◌⊎◌, ◌<◌, ◌≤◌, ℕ, suc, zero, inl, inr, ⊎_elim, sym, ap, subst, ◌∙◌, arith}
use Rattle.std.specs.Prelude.{Some}
use Rattle.fsfs_revision.specs.Told.{Telling}
use Rattle.fsfs_fetch.specs.Views.{View as StoreView}
use Rattle.fsfs_fetch.specs.Kept.{TellsOwn}
use Rattle.fsfs_turn.specs.Bytes.{bytes_beside}
use Rattle.fsfs_turn.specs.Telling.{TellsSeen}
use Rattle.fsfs_turn.specs.Views.{View}
use Rattle.fsfs_turn.proofs.Standings.{there_below}
use Rattle.fsfs_turn.specs.Seen.{TellsRevisions}

-- a number is below a floor or not
pub below_or_not : (r f : ℕ) → (r < f) ⊎ (f ≤ r)
below_or_not r zero = inr (omega arith)
below_or_not zero (suc f) = inl (omega arith)
below_or_not (suc r) (suc f) = ⊎_elim (λ l. inl (omega (arith, l))) (λ l. inr (omega (arith, l))) (below_or_not r f)

pub tells_revisions : {Lasting Below : Type 0} (s : StoreView Lasting) (low floor : ℕ) (v : View) (told : Telling Below) → floor ≡ low → (seen : TellsSeen low s v) → TellsOwn s floor seen.files told → TellsRevisions v told
tells_revisions s low floor v told floor_is seen begun = record {
  revs = λ r less.
      let own : TellsOwn s low seen.files told = subst (λ f. TellsOwn s f seen.files told) floor_is begun in
      let x = there_below v.seen r less in
      let one = seen.each r x.0 x.1 in
      ⊎_elim (λ less. own.packed r one.known less (one.packed less)) (λ le. own.revs r one.known le (one.own le)) (below_or_not r low) ∙ ap (λ read. Some read) (one.bytes ∙ sym (ap (λ o. bytes_beside r o) x.1));
}
