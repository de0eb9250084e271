-- What packing a repository did, as the top call tells it.
use Rattle.std.proofs.Common.{◌≡◌, ◌⊎◌, ◌+◌, ◌-◌, ◌*◌, ◌/◌, ◌<◌, ◌≤◌, ℕ, List, length, min, inl, inr, refl, sym, ap, subst, ◌∙◌, arith}
use Rattle.std.proofs.lemmas.Nat.{div-mul-add}
use Rattle.std.proofs.lemmas.Option.{none-some, same_Some}
use Rattle.std.specs.Prelude.{Option, Some, None, option_map, Result, Ok}
use Rattle.fsfs_base.specs.Failures.{Rose}
use Rattle.fsfs_base.specs.Fields.RevNums.{last_rev}
use Rattle.fsfs_base.specs.Files.{Files}
use Rattle.fsfs_base.specs.declared.small_fault.SmallFault.{SmallFault}
use Rattle.fsfs_cli.specs.declared.faults.fault.Fault.{Fault}
use Rattle.fsfs_disk.specs.Trace.{Trace, files_now}
use Rattle.fsfs_create.proofs.OpeningLemmas.{firm_same}
use Rattle.fsfs_layout.specs.Layouts.{shard_size}
use Rattle.fsfs_layout.specs.Opening.{small_texts}
use Rattle.fsfs_layout.specs.declared.layout.Layout.{Layout}
use Rattle.fsfs_layout.specs.declared.small_files.format_file.FormatFile.TheVariants.{Known}
use Rattle.fsfs_layout.proofs.OpeningLemmas.{says_one}
use Rattle.fsfs_revision.specs.RevBytes.{floor_in}
use Rattle.fsfs_revision.proofs.FloorLemmas.{floor_is}
use Rattle.fsfs_stands.specs.Files.{StandsFor}
use Rattle.fsfs_tree.specs.Revisions.{Revision}
use Rattle.fsfs_turn.specs.Mountings.{RoseBy}
use Rattle.fsfs_pack_run.specs.Runs.{FloorRises, PacksDisk, PacksIt, NotOpened, Ended}
use Rattle.fsfs_pack_run.specs.From.{PacksFrom}
use Rattle.fsfs_pack_run.specs.From as from
use Rattle.fsfs_pack_run.specs.declared.running.Packed.{Packed}
use Rattle.fsfs_pack_run.proofs.Ending.{bench_on, disk_on, left_on, listing_on}
use Rattle.fsfs_top.specs.PackAnswers.{unpacked_of}
use Rattle.fsfs_top.specs.Packing.{HoldsHistory, PrintsPacked}
use Rattle.fsfs_top.specs.Scenes.{SinkScene}
use Rattle.fsfs_top.specs.Transactions.{OpeningIsDecided}
use Rattle.fsfs_top.proofs.FilesDecide.{opening_as, opening_because}
use Rattle.fsfs_top.proofs.LooksPrint.{counted_cause}

-- ---- how many shards were to be packed

known_same : (a b : Layout) → Known a ≡ Known b → a ≡ b
known_same a b e = cc

ok_same : (a b : ℕ) → ◌≡◌ {A = Result ℕ SmallFault} (Ok a) (Ok b) → a ≡ b
ok_same a b e = cc

-- what is left behind the last full shard
rest_of : (floor full size count last : ℕ) → floor + full ≤ count → floor + full ≤ last → (count < floor + full + size) ⊎ (last < floor + full + size) → (rest : ℕ) × (rest < size) × (min count last - floor ≡ full + rest)
rest_of floor full size count last most fits (inl less) = (min count last - (floor + full), omega (arith, most, fits, less), omega (arith, most, fits))
rest_of floor full size count last most fits (inr less) = (min count last - (floor + full), omega (arith, most, fits, less), omega (arith, most, fits))

-- just those that the floor rose by
pub packed_count : (files after : Files) (h : List Revision) (s : StandsFor files h) (shards : ℕ) → FloorRises shards (length h) files after → shards ≡ unpacked_of s.opened
packed_count files after h s shards r =
    let o = s.opened in
    let same : r.layout ≡ o.layout = known_same r.layout o.layout (says_one (small_texts files) (Known r.layout) (Known o.layout) r.laid s.small.format) in
    let floor : r.floor ≡ o.min_unpacked_rev = ok_same r.floor o.min_unpacked_rev (sym r.was ∙ ap (λ (l : Layout). floor_in l files) same ∙ floor_is o.layout o.min_unpacked_rev files s.small.behind.min_unpacked_rev) in
    let count : length h ≡ o.youngest + 1 = omega (arith, s.count) in
    let size = shard_size r.layout in
    let w = rest_of r.floor (shards * size) size (length h) last_rev r.most r.fits r.none_full in
    let all : (min (length h) last_rev - r.floor) / size ≡ shards = ap (λ (n : ℕ). n / size) w.2 ∙ div-mul-add shards size w.0 w.1 in
    sym (subst (λ (l : Layout). (min (o.youngest + 1) last_rev - o.min_unpacked_rev) / shard_size l ≡ shards) same
    (subst (λ (n : ℕ). (min n last_rev - o.min_unpacked_rev) / size ≡ shards) count (subst (λ (f : ℕ). (min (length h) last_rev - f) / size ≡ shards) floor all)))

-- ---- of the disk that a host had

-- told of counts that rose as well
packs_weaker : (before after then now : ℕ) (bench risen : Type 0) (old new : Option Trace) (told : Result ℕ Fault) → ((n : ℕ) → RoseBy n before after → RoseBy n then now) → (bench → risen) → PacksDisk before after bench old new told → PacksDisk then now risen old new told
packs_weaker before after then now bench risen old new _ f g (NotOpened why because firm) = NotOpened why (counted_cause (Rose before after) (Rose then now) old why (f 1) because) firm
packs_weaker before after then now bench risen old new _ f g (Ended o end opens over listed left failed benches) =
    Ended o end opens over (listing_on (Rose before after) (Rose then now) old old new (f 1) refl listed) (left_on before after then now end f left) (disk_on (Rose before after) (Rose then now) end (f 1) failed) (bench_on bench risen end g benches)

-- the same of what packing came to
pub from_weaker : (before after then now : ℕ) (bench risen : Type 0) (old new : Option Trace) (last : Result Packed Fault) → ((n : ℕ) → RoseBy n before after → RoseBy n then now) → (bench → risen) → PacksFrom before after bench old new last → PacksFrom then now risen old new last
from_weaker before after then now bench risen old new _ f g (from.NotOpened why because firm) = from.NotOpened why (counted_cause (Rose before after) (Rose then now) old why (f 1) because) firm
from_weaker before after then now bench risen old new _ f g (from.Ended o packed opens floor renamed over listed left failed benches) =
    from.Ended o packed opens floor renamed over (listing_on (Rose before after) (Rose then now) old old new (f 1) refl listed) (left_on before after then now packed.end f left) (disk_on (Rose before after) (Rose then now) packed.end (f 1) failed) (bench_on bench risen packed.end g benches)

-- the same, of the disk of a path
pub packs_told : (before after then now : ℕ) (bench risen : Type 0) (old new at_old at_new : Option Trace) (told : Result ℕ Fault) → old ≡ at_old → at_new ≡ new → ((n : ℕ) → RoseBy n before after → RoseBy n then now) → (bench → risen) → PacksDisk before after bench old new told
    → PacksDisk then now risen at_old at_new told
packs_told before after then now bench risen old new at_old at_new told was is f g packs =
    subst (λ (x : Option Trace). PacksDisk then now risen x at_new told) was (subst (λ (y : Option Trace). PacksDisk then now risen old y told) (sym is) (packs_weaker before after then now bench risen old new told f g packs))

-- the files decide which refusal of the opening comes
pub packs_decided : (before after : ℕ) (bench : Type 0) (old new : Option Trace) (told : Result ℕ Fault) (s r : SinkScene) (fault : Option Fault) → PacksDisk before after bench old new told → PrintsPacked told s r fault → OpeningIsDecided old fault
packs_decided before after bench old new _ s r fault (NotOpened why because firm) printed = subst (OpeningIsDecided old) (sym printed.0) (opening_because (Rose before after) old why because)
packs_decided before after bench old new _ s r fault (Ended o end opens over listed left failed benches) printed = opening_as old o fault opens

-- ---- the history is kept

same_hold : (old new : Option Trace) (h : List Revision) → option_map files_now new ≡ option_map files_now old → HoldsHistory h old → HoldsHistory h new
same_hold old None h same (t, is, stands) = absurd (none-some (files_now t) (same ∙ ap (option_map files_now) is))
same_hold old (Some u) h same (t, is, stands) = (u, refl, subst (λ (m : Files). StandsFor m h) (sym (same_Some (files_now u) (files_now t) (same ∙ ap (option_map files_now) is))) stands)

pub packs_keep : (before after : ℕ) (bench : Type 0) (old new : Option Trace) (told : Result ℕ Fault) (h : List Revision) → PacksDisk before after bench old new told → HoldsHistory h old → HoldsHistory h new
packs_keep before after bench old new _ h (NotOpened why because firm) holds = same_hold old new h (firm_same old new firm) holds
packs_keep before after bench old new _ h (Ended o end opens over listed left failed benches) (t, is, stands) =
    let w = subst (λ (x : Option Trace). PacksIt end x new) is over h stands in
    (w.now, w.told, w.kept.now)
