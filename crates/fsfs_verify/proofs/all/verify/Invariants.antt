use Rattle.std.proofs.Common.{◌≡◌, ◌≤◌, ◌-◌, suc}
use Rattle.std.specs.Prelude.{option_map}
use Rattle.fsfs_base.specs.Streams.{Adds}
use Rattle.fsfs_revision.specs.RevProps.{ReadsOnly}
use Rattle.fsfs_revision.specs.Told.{RevisionBytes, Knows, Keeps}
use Rattle.fsfs_dag.specs.declared.node.PlacedNode.{PlacedNode}
use Rattle.fsfs_sound.specs.Revisions.{AreSoundBefore}
use Rattle.fsfs_verify.specs.AllWritten.{HoldsWritten}
use Rattle.fsfs_verify.specs.Roots.{IsLastRoot}
use Rattle.fsfs_verify.specs.Texts.{verified_lines}
use Rattle.fsfs_verify.proofs.all.verify.Given as goal

-- the revisions before this one are sound, and their lines were written
abbrev pub invariant-revisions : goal.invariant-revisions
invariant-revisions g l = record {
  within : l.next ≤ suc l.fn.youngest;
  kept : Keeps (g.B.Book.told l.fn.book) (g.B.Book.told l.book);
  later : g.B.Book.faults l.fn.book ≤ g.B.Book.faults l.book;
  sink : g.S.Sink.faults l.fn.sink ≤ g.S.Sink.faults l.sink;
  written : Adds (g.S.Sink.written l.fn.sink) (g.S.Sink.written l.sink) (verified_lines l.next);
  sound : (look props : RevisionBytes) → Knows (g.B.Book.told l.fn.book).revs l.fn.youngest look → ReadsOnly (g.B.RevProps.may_read l.fn.book) l.fn.youngest props
      → AreSoundBefore look props l.next × HoldsWritten look l.next l.parts × IsLastRoot look l.next (option_map (λ (v : PlacedNode). v.node) l.last);
}

abbrev pub decreases-revisions : goal.decreases-revisions
decreases-revisions g l = suc l.fn.youngest - l.next
