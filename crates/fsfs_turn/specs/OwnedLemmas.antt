-- What an owned store tells one who reads it.
use Rattle.std.proofs.Common.{◌≡◌, ℕ, List, [], refl, sym, ap, subst, append-nil}
use Rattle.std.specs.Prelude.{true, false, Option, Some, None, option_map, is_some, IsSome}
use Rattle.fsfs_layout.specs.declared.layout.Layout.{Layout}
use Rattle.fsfs_disk.specs.Trace.{Trace, files_now, labels_now}
use Rattle.fsfs_base.specs.declared.places.place.DiskPlace.{DiskPlace}
use Rattle.fsfs_turn.specs.Bytes.{AllShow}
use Rattle.fsfs_turn.specs.Views.{View}
use Rattle.fsfs_turn.specs.Courses.{ReadOnly, End}
use Rattle.fsfs_turn.specs.Standing.{Knows}
use Rattle.fsfs_turn.specs.Alone.{KnowsAlone}
use Rattle.fsfs_turn.specs.Telling.{TellsSeen, OwnedState, state_of, owned_view}
use Rattle.fsfs_turn.specs.Mountings.{Mounting}
use Rattle.fsfs_turn.specs.Found.{readable}

pub owned_tells : (layout : Layout) (low young : ℕ) (stuck : Option DiskPlace) (told : Option Trace) (path : List ℕ) (benches : ℕ) (v : View) → Knows layout low young stuck told v → TellsSeen low (owned_view (state_of layout low young stuck told path benches)) v
owned_tells layout low young stuck None path benches v known = absurd known
owned_tells layout low young stuck (Some t) path benches v known = record {
  layout = sym known.3;
  files = files_now t;
  told = refl;
  each = λ r x at. readable layout low young stuck t v known path benches r x at;
  shown = known.2.shown;
}

-- a bench tells as its disk does
pub owned_benches_tell : {X : Type 0} (layout : Layout) (low young : ℕ) (stuck : Option DiskPlace) (told : Option Trace) (held : Option X) (v : View) → is_some held ≡ is_some told → Knows layout low young stuck told v → IsSome held
owned_benches_tell layout low young stuck None held v same known = absurd known
owned_benches_tell layout low young stuck (Some t) held v same known = same

-- what is known is a fact of the state alone
pub known_still : (a b : OwnedState) (v : View) → b ≡ a → KnowsAlone a.layout a.floor a.young a.stuck a.trace v → KnowsAlone b.layout b.floor b.young b.stuck b.trace v
known_still a b v same known = subst (λ s. KnowsAlone s.layout s.floor s.young s.stuck s.trace v) (sym same) known

pub files_same : (a b : OwnedState) → b ≡ a → (owned_view b).files ≡ (owned_view a).files
files_same a b same = ap (λ s. option_map files_now s.trace) same

pub labels_same : (a b : OwnedState) → b ≡ a → option_map labels_now b.trace ≡ option_map labels_now a.trace
labels_same a b same = ap (λ s. option_map labels_now s.trace) same

abbrev pub mounting_of : OwnedState → Mounting (List ℕ)
mounting_of s = record { mount = s.mount_path; bench_faults = s.bench_faults }

pub mounting_same : (a b : OwnedState) → b ≡ a → mounting_of b ≡ mounting_of a
mounting_same a b same = ap mounting_of same

-- ---- reading

-- no read comes to no more than what was known
pub reads_nothing : (v : View) → AllShow v.seen → ReadOnly v v
reads_nothing v shown = record { is = refl; grows = ([], sym (append-nil v.seen)); firm = λ f e. e; doubtless = λ few. few; shown = shown; within = λ sure le. le; course = End v }

seen_shows : (layout : Layout) (low young : ℕ) (stuck : Option DiskPlace) (told : Option Trace) (v : View) → Knows layout low young stuck told v → AllShow v.seen
seen_shows layout low young stuck None v known = absurd known
seen_shows layout low young stuck (Some t) v known = known.2.shown

-- what is known of a disk that is read is known of it then
pub read_onward : (layout : Layout) (low young : ℕ) (stuck : Option DiskPlace) (told now : Option Trace) (v : View) → now ≡ told → KnowsAlone layout low young stuck told v → (u : View) × KnowsAlone layout low young stuck now u × ReadOnly v u
read_onward layout low young stuck told now v same known = (v, subst (λ t. KnowsAlone layout low young stuck t v) (sym same) known, reads_nothing v (seen_shows layout low young stuck told v known.0))

-- nobody rests on what an owner does
pub never_bound : {P : Type 0} → false ≡ true → P
never_bound e = absurd cc
