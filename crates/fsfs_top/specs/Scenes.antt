-- What the outside has and tells at one moment. Two scenes, before and after a call, are what its clauses speak of.
use Rattle.std.specs.Prelude.{◌≡◌, ℕ, List, Option}
use Rattle.fsfs_disk.specs.Trace.{Trace}
use Rattle.fsfs_disk.specs.declared.host.Host as Host
use Rattle.fsfs_base.specs.declared.streams.Sink as Sink
use Rattle.fsfs_base.specs.declared.streams.Source as Source
use Rattle.fsfs_cli.specs.Requests.{IsNoneOf}

-- of a host: the disk of each path, where it tells, and how often mounts, disks and benches failed
pub record HostScene : Type 0 where
  pub disk_at : List ℕ → Option Trace
  pub mount_faults : ℕ
  pub disk_faults : ℕ
  pub bench_faults : ℕ

-- of an output: what was written to it, where it tells, and how often it failed
pub record SinkScene : Type 0 where
  pub written : Option (List ℕ)
  pub faults : ℕ

-- of an input: what remains to be read of it, where it tells, and how often it failed
pub record SourceScene : Type 0 where
  pub remaining : Option (List ℕ)
  pub faults : ℕ

-- of the host, the output and the input
pub record Scene : Type 0 where
  pub host : HostScene
  pub out : SinkScene
  pub input : SourceScene

-- the disk of each path that is none of these is as it was
abbrev pub OthersStay : List (List ℕ) → HostScene → HostScene → Type 0
OthersStay paths a b = (path : List ℕ) → IsNoneOf paths path → b.disk_at path ≡ a.disk_at path

abbrev pub host_scene : {H M B : Type 0} → Host.Ghosts H M B → H → HostScene
host_scene g h = record { disk_at = g.disk_at h; mount_faults = g.mount_faults h; disk_faults = g.disk_faults h; bench_faults = g.bench_faults h }

abbrev pub sink_scene : {S : Type 0} → Sink.Ghosts S → S → SinkScene
sink_scene g s = record { written = g.written s; faults = g.faults s }

abbrev pub source_scene : {S : Type 0} → Source.Ghosts S → S → SourceScene
source_scene g s = record { remaining = g.remaining s; faults = g.faults s }

-- of a host and an output, beside what is told of an input
abbrev pub scene : {H M B O : Type 0} → Host.Ghosts H M B → Sink.Ghosts O → H → O → SourceScene → Scene
scene g k h o input = record { host = host_scene g h; out = sink_scene k o; input = input }
