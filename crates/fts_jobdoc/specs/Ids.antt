-- The id that a job takes from its client's own id (`sid`): a version 5 UUID (RFC 9562, section 5.5).
use Rattle.std.specs.Prelude.{ℕ, List, ◌++◌, take}
use Rattle.std.specs.Int.{w128, to_be_bytes, from_be_bytes}
use Rattle.sha1.specs.Sha1.{sha1}
use Rattle.uuid.specs.Parts.{with_version, with_variant}
use Rattle.uuid.specs.declared.Variant.TheVariants.{RFC4122}
use Rattle.uuid.specs.declared.Version.TheVariants.{Sha1}

-- the version 5 UUID of a name under a namespace
abbrev pub name_id : List ℕ → List ℕ → List ℕ
name_id namespace name = with_version (with_variant (take 16 (sha1 (namespace ++ name))) RFC4122) Sha1

-- the namespace of the VOs' names, 01874efb-4735-4595-bc9c-591aef8240c9; it is written out here, so that the code's constant has to be it
abbrev pub base_namespace : ℕ
base_namespace = 0x0187_4efb_4735_4595_bc9c_591a_ef82_40c9

-- the id of a client's own id: its UUID under that of the VO's name, which is under the base
unfoldable pub sid_id : List ℕ → List ℕ → ℕ
sid_id vo sid = from_be_bytes w128 (name_id (name_id (to_be_bytes w128 base_namespace) vo) sid)
