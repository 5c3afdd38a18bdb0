-- What a file's checksum asks for: an MD5 digest (RFC 1321), written as `MD5:` and 32 hexadecimal digits.
use Rattle.std.specs.Prelude.{ℕ, Bool, ◌==◌, if◌then◌else◌, List, [], length, Option, Some, None, Result, Ok, Err, codes, bytes_eq}
use Rattle.std.specs.List.{list_any, before_first, after_first}
use Rattle.std.specs.Str.{str_to_ascii_lowercase}
use Rattle.hex.specs.declared.FromHexError.{FromHexError}
use Rattle.hex.specs.Hex.{decode_sized}
use Rattle.serde_json.specs.Data.{Data}
use Rattle.serde_json.specs.Find.{as_str}
use Rattle.fts_jobdoc.specs.Json.{field}
use Rattle.fts_jobdoc.specs.declared.checksum.Checksum.{Checksum}
use Rattle.fts_jobdoc.specs.declared.checksum.Checksum.TheVariants.{NotGiven, Malformed, Other, Md5}

-- the byte ":"
abbrev pub is_colon : ℕ → Bool
is_colon byte = byte == 0x3a

-- the bytes that hexadecimal digits spell, two digits each: an MD5 digest has 16 bytes
abbrev pub md5_read : Result (List ℕ) FromHexError → Checksum
md5_read (Ok digest) = Md5 digest
md5_read (Err fault) = Malformed

-- what a checksum of this algorithm and these digits asks for
abbrev pub checksum_by : List ℕ → List ℕ → Checksum
checksum_by algorithm digits =
    if bytes_eq algorithm [] then Malformed
    else if bytes_eq (str_to_ascii_lowercase algorithm) (codes "md5") then md5_read (decode_sized digits 16)
    else Other

-- what a text asks for: the algorithm stands before its first ":", and the digits behind it
unfoldable pub checksum_in : List ℕ → Checksum
checksum_in text =
    if length text == 0 then NotGiven
    else if list_any is_colon text then checksum_by (before_first is_colon text) (after_first is_colon text)
    else Malformed

-- what a text that is found asks for
abbrev pub checksum_found : Option (List ℕ) → Checksum
checksum_found (Some text) = checksum_in text
checksum_found None = Malformed

-- what stands under a file's `checksum` asks for
abbrev pub checksum_under : Option Data → Checksum
checksum_under (Some value) = checksum_found (as_str value)
checksum_under None = NotGiven

-- what a file's checksum asks for
unfoldable pub checksum_of : Data → Checksum
checksum_of file = checksum_under (field (codes "checksum") file)
