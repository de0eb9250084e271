-- How far a text was written.
use Rattle.std.proofs.Common.{◌≡◌, ℕ, Bool, ◌≤◌, List, [], ◌∷◌, ◌++◌, Option, Some, None, Ok, Err, sym, ap, subst, ◌∙◌, append_assoc, append-nil, arith}
use Rattle.fsfs_revision.specs.Told.{RevisionBytes, Telling, Knows, Keeps}
use Rattle.fsfs_base.specs.Streams.{Adds}
use Rattle.fsfs_base.proofs.StreamLemmas.{adds_then}
use Rattle.fsfs_noderev.specs.declared.node_rev.NodeRev.{NodeRev}
use Rattle.fsfs_revision.specs.declared.wrong.ReadError.{ReadError}
use Rattle.fsfs_revision.specs.declared.wrong.ReadError.TheVariants as reads
use Rattle.fsfs_revision.specs.Damage.Readings.{Answers}
use Rattle.fsfs_revision.specs.Shows.Reading.{DirEntry, OfEntry}
use Rattle.fsfs_dag.specs.TreeWalks.{Left}
use Rattle.fsfs_dag.specs.declared.node.PlacedNode.{PlacedNode}
use Rattle.fsfs_look.specs.declared.look_error.LookError.{LookError}
use Rattle.fsfs_look.specs.declared.look_error.LookError.TheVariants as errors
use Rattle.fsfs_stands.specs.declared.look_fault.LookFault.TheVariants as faults
use Rattle.fsfs_look.specs.Errors.{of_read}
use Rattle.fsfs_base.specs.Output.{AddsFront}
use Rattle.fsfs_stands.specs.Texts.{End, Whole, Refused, Stopped}
use Rattle.fsfs_stands.specs.TreeTexts.{EntryText}
use Rattle.fsfs_look.specs.Walks.{Then, LeftText, Puts, Joins, JoinsSome, Walks}
use Rattle.fsfs_look.proofs.TextsLeft.{wrong_first, refused_first, stops_first, node_first}

-- what was kept before and the text so far are what was written and the lines; what S gives goes on behind that text, as R has it
pub record Progress (R S : List ℕ → End → Type 0) (before lines : List ℕ) (old new : Option (List ℕ)) : Type 0 where
  pub written : List ℕ
  pub adds : Adds old new written
  pub so_far : List ℕ
  pub joined : before ++ so_far ≡ written ++ lines
  pub goes : (text : List ℕ) (end : End) → S text end → R (so_far ++ text) end

pub adds_nothing : (told : Option (List ℕ)) → Adds told told []
adds_nothing None = tt
adds_nothing (Some w) = ap (λ t. Some t) (sym (append-nil w))

pub begins : (R : List ℕ → End → Type 0) (before : List ℕ) (told : Option (List ℕ)) → Progress R R before before told told
begins R before told = record { written = []; adds = adds_nothing told; so_far = []; joined = append-nil before; goes = λ text end h. h }

-- a first part of the lines is written
pub flushed : (R S : List ℕ → End → Type 0) (before lines now part : List ℕ) (old mid new : Option (List ℕ)) → Progress R S before lines old mid → Adds mid new part → lines ≡ part ++ now → Progress R S before now old new
flushed R S before lines now part old mid new p adds e = record {
  written = p.written ++ part;
  adds = adds_then old mid new p.written part p.adds adds;
  so_far = p.so_far;
  joined = p.joined ∙ ap (λ t. p.written ++ t) e ∙ sym (append_assoc p.written part now);
  goes = p.goes;
}

-- a line more
pub longer : (R S T : List ℕ → End → Type 0) (before lines now line : List ℕ) (old new : Option (List ℕ)) → Progress R S before lines old new → now ≡ lines ++ line → ((text : List ℕ) (end : End) → T text end → S (line ++ text) end)
    → Progress R T before now old new
longer R S T before lines now line old new p e step = record {
  written = p.written;
  adds = p.adds;
  so_far = p.so_far ++ line;
  joined = sym (append_assoc before p.so_far line) ∙ ap (λ t. t ++ line) p.joined ∙ append_assoc p.written lines line ∙ ap (λ t. p.written ++ t) (sym e);
  goes = λ text end h. subst (λ t. R t end) (sym (append_assoc p.so_far line text)) (p.goes (line ++ text) end (step text end h));
}

-- the text ends here
pub ends_here : (R S : List ℕ → End → Type 0) (before lines now line : List ℕ) (end : End) (old new : Option (List ℕ)) (p : Progress R S before lines old new) → now ≡ lines ++ line → S line end → Joins R before p.written end now
ends_here R S before lines now line end old new p e h =
    (p.so_far ++ line, p.goes line end h, sym (append_assoc before p.so_far line) ∙ ap (λ t. t ++ line) p.joined ∙ append_assoc p.written lines line ∙ ap (λ t. p.written ++ t) (sym e))

pub stops_here : (R S : List ℕ → End → Type 0) (before lines : List ℕ) (old new : Option (List ℕ)) (p : Progress R S before lines old new) → S [] Stopped → JoinsSome R before p.written
stops_here R S before lines old new p h = (Stopped, lines, ends_here R S before lines lines [] Stopped old new p (sym (append-nil lines)) h)

pub all_written : (R S : List ℕ → End → Type 0) (before lines : List ℕ) (old new : Option (List ℕ)) → Progress R S before lines old new → S [] Whole → Walks R before lines old new (Ok tt)
all_written R S before lines old new p h = (p.written, p.adds, ends_here R S before lines lines [] Whole old new p (sym (append-nil lines)) h)

-- a write fails after a first part of the lines
pub write_fails : (R S : List ℕ → End → Type 0) (before lines now : List ℕ) (old mid new : Option (List ℕ)) → Progress R S before lines old mid → S [] Stopped → AddsFront mid new lines → Walks R before now old new (Err errors.WriteFault)
write_fails R S before lines now old mid new p h (front, rest, e, adds) =
    let q = flushed R S before lines rest front old mid new p adds e in
    (q.written, q.adds, stops_here R S before rest old new q h)

-- an entry isn't read
pub read_fails : (look : RevisionBytes) (ids : Bool) (R S : List ℕ → End → Type 0) (level : ℕ) (entry : DirEntry) (before lines : List ℕ) (old new : Option (List ℕ)) → Progress R (Then (EntryText look ids level entry) S) before lines old new
    → (e : ReadError) → Answers (λ (found : PlacedNode). found.node) (OfEntry look entry) (Err e) → Walks R before lines old new (Err (of_read e))
read_fails look ids R S level entry before lines old new p (reads.Wrong w) h =
    (p.written, p.adds, ends_here R (Then (EntryText look ids level entry) S) before lines lines [] (Refused (faults.Wrong w)) old new p (sym (append-nil lines)) (wrong_first look ids S level entry w h))
read_fails look ids R S level entry before lines old new p reads.OutOfMemory h = (p.written, p.adds, stops_here R (Then (EntryText look ids level entry) S) before lines old new p (stops_first look ids S level entry))
read_fails look ids R S level entry before lines old new p reads.DiskFault h = (p.written, p.adds, stops_here R (Then (EntryText look ids level entry) S) before lines old new p (stops_first look ids S level entry))

-- its node isn't put
pub put_fails : (look : RevisionBytes) (ids : Bool) (R S : List ℕ → End → Type 0) (level : ℕ) (entry : DirEntry) (v : NodeRev) (todo after : Left) (before lines now : List ℕ) (old new : Option (List ℕ))
    → Progress R (Then (EntryText look ids level entry) S) before lines old new → OfEntry look entry (Ok v)
    → (e : LookError) → Puts look ids level entry.name v todo after lines now (Err e) → Walks R before now old new (Err e)
put_fails look ids R S level entry v todo after before lines now old new p read (errors.Fault fault) h =
    (p.written, p.adds, ends_here R (Then (EntryText look ids level entry) S) before lines now h.0 (Refused fault) old new p h.1 (refused_first look ids S level entry v h.0 fault read h.2))
put_fails look ids R S level entry v todo after before lines now old new p read errors.OutOfMemory h = (p.written, p.adds, stops_here R (Then (EntryText look ids level entry) S) before lines old new p (stops_first look ids S level entry))
put_fails look ids R S level entry v todo after before lines now old new p read errors.DiskFault h = (p.written, p.adds, stops_here R (Then (EntryText look ids level entry) S) before lines old new p (stops_first look ids S level entry))
put_fails look ids R S level entry v todo after before lines now old new p read errors.WriteFault h = (p.written, p.adds, stops_here R (Then (EntryText look ids level entry) S) before lines old new p (stops_first look ids S level entry))

-- its node is put
pub put_goes : (look : RevisionBytes) (ids : Bool) (R : List ℕ → End → Type 0) (level : ℕ) (entry : DirEntry) (v : NodeRev) (todo after : Left) (before lines now : List ℕ) (old new : Option (List ℕ))
    → Progress R (Then (EntryText look ids level entry) (LeftText look ids todo)) before lines old new → OfEntry look entry (Ok v)
    → Puts look ids level entry.name v todo after lines now (Ok tt) → Progress R (LeftText look ids after) before now old new
put_goes look ids R level entry v todo after before lines now old new p read h =
    longer R (Then (EntryText look ids level entry) (LeftText look ids todo)) (LeftText look ids after) before lines now h.0 old new p h.1
    (λ text end t. node_first look ids (LeftText look ids todo) level entry v (h.0 ++ text) end read (h.2 text end t))

-- ---- the first of what is left

pub popped : (look : RevisionBytes) (ids : Bool) (R : List ℕ → End → Type 0) (before lines : List ℕ) (old new : Option (List ℕ)) (todo rest : Left) (level : ℕ) (entry : DirEntry) → todo ≡ (level, entry) ∷ rest
    → Progress R (LeftText look ids todo) before lines old new → Progress R (Then (EntryText look ids level entry) (LeftText look ids rest)) before lines old new
popped look ids R before lines old new todo rest level entry e p = subst (λ (t : Left). Progress R (LeftText look ids t) before lines old new) e p

pub knows_upto : {Below : Type 0} (old new : Telling Below) (look : RevisionBytes) (top upto : ℕ) → Keeps old new → upto ≤ top → Knows old.revs top look → Knows new.revs upto look
knows_upto old new look top upto kept le knows r lower = kept.revs r (look r) (knows r (omega (arith, lower, le)))
