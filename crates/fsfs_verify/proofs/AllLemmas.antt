-- What all revisions show, and the ends of a check of them.
use Rattle.std.proofs.Common.{◌≡◌, ◌≤◌, ◌<◌, ◌⊎◌, ◌+◌, ℕ, zero, suc, List, [], inl, inr, refl, sym, subst, append-nil, arith}
use Rattle.std.specs.Prelude.{Contains, Option, Some, None, option_map, option_copied, Result, Ok, Err}
use Rattle.std.specs.Borrow.{Bor}
use Rattle.fsfs_base.specs.Streams.{Adds}
use Rattle.fsfs_base.specs.Output.{AddsFront}
use Rattle.fsfs_revision.specs.Damage.Causes as reads
use Rattle.fsfs_revision.specs.Damage.Readings.{IfWrong}
use Rattle.fsfs_revision.specs.Told.{RevisionBytes, Telling, Knows, Keeps}
use Rattle.fsfs_revision.specs.declared.wrong.Refusal.{Refusal}
use Rattle.fsfs_revision.specs.RevProps.{MayRead, ReadsOnly}
use Rattle.fsfs_revision.proofs.Roots.{one_more}
use Rattle.fsfs_noderev.specs.declared.node_id.Part.{Part}
use Rattle.fsfs_revision.specs.declared.wrong.ReadError.{ReadError}
use Rattle.fsfs_revision.specs.declared.wrong.ReadError.TheVariants as errors
use Rattle.fsfs_revision.specs.declared.wrong.Wrong.{Wrong}
use Rattle.fsfs_look.specs.Errors.{of_read}
use Rattle.fsfs_look.specs.Written.{Writes, WritesFront, IfDisk, IfWrite}
use Rattle.fsfs_look.proofs.LookLemmas.{front_second}
use Rattle.fsfs_stands.specs.Texts.{Stopped}
use Rattle.fsfs_dag.specs.declared.node.PlacedNode.{PlacedNode}
use Rattle.fsfs_sound.specs.Damaged.{IsDamaged}
use Rattle.fsfs_sound.specs.Laws.{ShowsOpenHistory}
use Rattle.fsfs_sound.specs.Revisions.{IsSoundRevision, AreSoundBefore}
use Rattle.fsfs_sound.proofs.Histories.{sound_history}
use Rattle.fsfs_verify.specs.declared.parts.Parts.{Parts}
use Rattle.fsfs_verify.specs.AllWritten.{AreBrought, HoldsTree, HoldsWritten}
use Rattle.fsfs_verify.specs.Brought.{Brought}
use Rattle.fsfs_verify.specs.Roots.{IsLastRoot}
use Rattle.fsfs_verify.specs.Texts.{verified_line, verified_lines, ShowsBefore, VerifyText}

-- sound revisions show a history
pub shows_upto : (look props : RevisionBytes) (n top : ℕ) → AreSoundBefore look props n → top < n → ShowsOpenHistory look props top
shows_upto look props n top sound less = sound_history look props top (λ r le. sound r (omega (arith, le, less)))

pub shows_before : (look props : RevisionBytes) (n : ℕ) → AreSoundBefore look props n → ShowsBefore look props n
shows_before look props zero sound = tt
shows_before look props (suc top) sound = shows_upto look props (suc top) top sound (omega arith)

-- ---- what is written

-- a failure behind the lines of the revisions before n
pub lines_stop : (look props : RevisionBytes) (youngest n : ℕ) (old new : Option (List ℕ)) → n ≤ suc youngest → ShowsBefore look props n → Adds old new (verified_lines n) → WritesFront (VerifyText look props youngest) old new
lines_stop look props youngest n old new le before adds =
    let all = verified_lines n in
    (all, Stopped, (n, le, before, refl), (all, [], sym (append-nil all), adds))

-- the line of revision n isn't written as a whole
pub line_stops : (look props : RevisionBytes) (youngest n : ℕ) (old mid new : Option (List ℕ)) → n ≤ youngest → ShowsBefore look props (suc n) → Adds old mid (verified_lines n) → AddsFront mid new (verified_line n)
    → WritesFront (VerifyText look props youngest) old new
line_stops look props youngest n old mid new le before adds front =
    (verified_lines (suc n), Stopped, (suc n, omega (arith, le), before, refl), front_second old mid new (verified_lines n) (verified_line n) adds front)

-- something is wrong with revision n, or its reading failed
pub revision_wrong : (look props : RevisionBytes) (youngest n : ℕ) (old new : Option (List ℕ)) (e : ReadError) → n ≤ youngest → ShowsBefore look props n → Adds old new (verified_lines n) → IfWrong (IsDamaged look props n) e
    → Writes (VerifyText look props youngest) old new (Err (of_read e))
revision_wrong look props youngest n old new errors.OutOfMemory le before adds wrong = lines_stop look props youngest n old new (omega (arith, le)) before adds
revision_wrong look props youngest n old new errors.DiskFault le before adds wrong = lines_stop look props youngest n old new (omega (arith, le)) before adds
revision_wrong look props youngest n old new (errors.Wrong w) le before adds wrong = (verified_lines n, (n, record { upto = le; damaged = wrong; before = before }, refl), adds)

-- the lines of all
pub all_verified : (look props : RevisionBytes) (youngest n : ℕ) (old new : Option (List ℕ)) → n ≡ suc youngest → AreSoundBefore look props n → Adds old new (verified_lines n) → Writes (VerifyText look props youngest) old new (Ok tt)
all_verified look props youngest n old new all sound adds =
    let lines = subst (λ (k : ℕ). Adds old new (verified_lines k)) all adds in
    (verified_lines (suc youngest), (refl, shows_upto look props n youngest sound (omega (arith, all))), lines)

pub disk_rose : (e : ReadError) (P : Type 0) → reads.IfDisk e P → IfDisk (of_read e) P
disk_rose errors.OutOfMemory P h = tt
disk_rose errors.DiskFault P h = h
disk_rose (errors.Wrong w) P h = tt

pub no_write : (e : ReadError) (P : Type 0) → IfWrite (of_read e) P
no_write errors.OutOfMemory P = tt
no_write errors.DiskFault P = tt
no_write (errors.Wrong w) P = tt

-- ---- from one revision to the next

less_or : (r n : ℕ) → r < n + 1 → (r < n) ⊎ (r ≡ n)
less_or zero zero lt = inr refl
less_or zero (suc n) lt = inl (omega arith)
less_or (suc r) zero lt = absurd (omega (arith, lt))
less_or (suc r) (suc n) lt = by (less_or r n (omega (arith, lt)))
  where
    by : (r < n) ⊎ (r ≡ n) → (suc r < suc n) ⊎ (suc r ≡ suc n)
    by (inl h) = inl (omega (arith, h))
    by (inr e) = inr (omega (arith, e))

pub sound_next : (look props : RevisionBytes) (n : ℕ) → AreSoundBefore look props n → IsSoundRevision look props n → AreSoundBefore look props (n + 1)
sound_next look props n before now r less = by (less_or r n less)
  where
    by : (r < n) ⊎ (r ≡ n) → IsSoundRevision look props r
    by (inl lt) = before r lt
    by (inr same) = subst (λ (k : ℕ). IsSoundRevision look props k) (sym same) now

-- nothing was written before revision 0
pub sound_none : (look props : RevisionBytes) → AreSoundBefore look props 0
sound_none look props r less = absurd (omega (arith, less))

nothing : (part : Part) → Contains [] part → ⊥
nothing part there = let lt = there.1 in omega (arith, lt)

pub holds_none : (look : RevisionBytes) (parts : Parts) → Brought 0 parts [] [] [] → HoldsWritten look 0 parts
holds_none look parts held = record {
  begun = [];
  copied = [];
  drawn = [];
  held = held;
  all = record {
    begins = λ v b none. absurd (let lt = b.before in omega (arith, lt));
    begun = λ part there. absurd (nothing part there);
    copies = λ v from b is. absurd (let lt = b.before in omega (arith, lt));
    copied = λ part there. absurd (nothing part there);
    draws = λ dir v b. absurd (let lt = b.before in omega (arith, lt));
    drawn = λ part there. absurd (nothing part there);
    apart = λ part there also. nothing part there;
  };
}

-- the parts of a revision are left behind
pub holds_ended : (look : RevisionBytes) (rev : ℕ) (parts new : Parts) → ((begun copied drawn : List Part) → Brought rev parts begun copied drawn → Brought (rev + 1) new begun copied drawn) → HoldsTree look (rev + 1) rev parts → HoldsWritten look (rev + 1) new
holds_ended look rev parts new ended h = record { begun = h.begun; copied = h.copied; drawn = h.drawn; held = ended h.begun h.copied h.drawn h.held; all = h.all }

-- ---- what is known later, of fewer revisions

pub knows_upto : {Below : Type 0} (old new : Telling Below) (look : RevisionBytes) (top upto : ℕ) → Keeps old new → upto ≤ top → Knows old.revs top look → Knows new.revs upto look
knows_upto old new look top upto kept le knows r lower = kept.revs r (look r) (knows r (omega (arith, lower, le)))

pub reads_upto : (before now : MayRead) (props : RevisionBytes) (top upto : ℕ) → ((r : ℕ) (read : Result (List ℕ) Refusal) → now r read → before r read) → upto ≤ top → ReadsOnly before top props → ReadsOnly now upto props
reads_upto before now props top upto still le reads r lower read may = reads r (omega (arith, lower, le)) read (still r read may)

-- ---- the root of the revision before

pub last_as : (look : RevisionBytes) (r : ℕ) (o : Option PlacedNode) (b : Option (Bor PlacedNode)) → option_copied b ≡ o → IsLastRoot look r (option_map (λ (v : PlacedNode). v.node) o) → IsLastRoot look r (option_map (λ (v : Bor PlacedNode). v.now.node) b)
last_as look r o None same last = subst (λ (x : Option PlacedNode). IsLastRoot look r (option_map (λ (v : PlacedNode). v.node) x)) (sym same) last
last_as look r o (Some v) same last = subst (λ (x : Option PlacedNode). IsLastRoot look r (option_map (λ (v : PlacedNode). v.node) x)) (sym same) last
