-- What the digests of a text have taken in.
use Rattle.std.specs.Prelude.{ℕ, List, IfSome}
use Rattle.md5.specs.Md5.{Holds as HoldsMd5}
use Rattle.sha1.specs.Sha1.{Holds as HoldsSha1}
use Rattle.fsfs_revision.specs.declared.rep.digester.Digester.{Digester}
use Rattle.fsfs_revision.specs.declared.rep.digests.Digests.{Digests}

abbrev pub HasSeen : Digester → List ℕ → Type 0
HasSeen digester text = HoldsMd5 digester.md5 text × HoldsSha1 digester.sha1 text

-- the same of those that a representation names
abbrev pub HasSeenNamed : Digests → List ℕ → Type 0
HasSeenNamed digests text = HoldsMd5 digests.md5 text × IfSome digests.sha1 (λ sha1. HoldsSha1 sha1 text)
