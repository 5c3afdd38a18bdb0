-- What is read from a text that was parsed, and what a URL without a fault has.
use Rattle.std.proofs.Common.{◌≡◌, ℕ, ◌≤◌, Bool, true, false, List, [], ◌∷◌, length, ◌++◌, Option, Some, None, refl, ap, ◌∙◌, ◌⊎◌, inl, inr, length-append, arith, rules}
use Rattle.std.specs.Prelude.{Result, Ok, Err, not, ◌||◌, ◌==◌, option_map, is_some, unwrap_or, codes, decimal}
use Rattle.std.specs.List.{list_all, list_any}
use Rattle.std.specs.Option.{option_or}
use Rattle.std.proofs.lemmas.Bool.{or_parts, not-false, ltb-false}
use Rattle.url.specs.Input.{when}
use Rattle.url.specs.Parts.{Parts, IsValid, needs_guard, serialize}
use Rattle.url.specs.Parser.{Parsed, parse_url}
use Rattle.fts_tables.specs.declared.limits.TheConstants.{MAX_NAME_BYTES}
use Rattle.fts_tables.specs.FirstFault.{fault_if, first_fault, unless}
use Rattle.fts_tables.specs.Names.{is_name_byte, is_plain_byte, IsEndpointName, IsPathKey}
use Rattle.fts_joburl.specs.declared.read.Surl.{Surl}
use Rattle.fts_joburl.specs.declared.fault.UrlFault.{UrlFault}
use Rattle.fts_joburl.specs.declared.fault.UrlFault.TheVariants.{Memory}
use Rattle.fts_joburl.specs.Urls.{read_by, host_of, endpoint_text, path_text, has_no_host, has_query, has_fragment, has_user, has_escape, has_no_path, is_too_long, has_reserved_path, surl_of, surl_in, endpoint_of, endpoint_in, shared_faults, file_faults, endpoint_faults}
use Rattle.fts_joburl.proofs.EndpointNames.{endpoint_is_named}
use Rattle.fts_joburl.proofs.FilePaths.{path_is_key}

-- a text was parsed, where a URL was given and no want of memory
pub was_parsed : (url : Parts) (parsed : Parsed Parts) → (Ok url ≡ read_by Ok parsed) ⊎ (Ok url ≡ Err Memory) → parsed ≡ Ok url
was_parsed url (Ok other) (inl same) = search rules
was_parsed url (Err refused) (inl same) = search rules
was_parsed url parsed (inr same) = search rules

-- the first of two faults is none only where both are
first_is_none : (test : Bool) (fault : UrlFault) (rest : List (Option UrlFault)) → first_fault (fault_if test fault ∷ rest) ≡ None
    → (test ≡ false) × (first_fault rest ≡ None)
first_is_none true fault rest none = search rules
first_is_none false fault rest none = (refl, none)

-- the first fault of two lists is that of the first, or else that of the second
first_fault-append : (these those : List (Option UrlFault)) → first_fault (these ++ those) ≡ option_or (first_fault these) (first_fault those)
first_fault-append [] those = refl
first_fault-append (None ∷ these) those = first_fault-append these those
first_fault-append (Some fault ∷ these) those = refl

-- a value was made, where it was given and no want of memory
pub was_made : {T : Type 0} (made value : T) → (◌≡◌ {A = Result T UrlFault} (Ok made) (Ok value)) ⊎ (◌≡◌ {A = Result T UrlFault} (Ok made) (Err Memory))
    → made ≡ value
was_made made value (inl same) = search rules
was_made made value (inr same) = search rules

-- what is read of a file's URL, by its faults
pub surl_by : (text : List ℕ) (url : Parts) (shared others : Option UrlFault) → parse_url None text ≡ Ok url
    → first_fault (shared_faults text url) ≡ shared → first_fault (file_faults url) ≡ others
    → surl_of text ≡ unless (option_or shared others) (record { endpoint = endpoint_text url; path = path_text url })
surl_by text url shared others parsed first second =
    let surl : Surl = record { endpoint = endpoint_text url; path = path_text url } in
    ap (read_by (surl_in text)) parsed
    ∙ ap (λ fault. unless fault surl) (first_fault-append (shared_faults text url) (file_faults url))
    ∙ ap (λ fault. unless (option_or fault (first_fault (file_faults url))) surl) first
    ∙ ap (λ fault. unless (option_or shared fault) surl) second

-- what is read of an endpoint's URL, by its faults
pub endpoint_by : (text : List ℕ) (url : Parts) (shared others : Option UrlFault) → parse_url None text ≡ Ok url
    → first_fault (shared_faults text url) ≡ shared → first_fault (endpoint_faults url) ≡ others
    → endpoint_of text ≡ unless (option_or shared others) (endpoint_text url)
endpoint_by text url shared others parsed first second =
    ap (read_by (endpoint_in text)) parsed
    ∙ ap (λ fault. unless fault (endpoint_text url)) (first_fault-append (shared_faults text url) (endpoint_faults url))
    ∙ ap (λ fault. unless (option_or fault (first_fault (endpoint_faults url))) (endpoint_text url)) first
    ∙ ap (λ fault. unless (option_or shared fault) (endpoint_text url)) second

-- what a URL has that has none of the shared faults
pub record IsClean (url : Parts) : Type 0 where
  pub host : has_no_host url ≡ false
  pub named : list_all is_name_byte (host_of url) ≡ true
  pub plain : list_all is_plain_byte url.path ≡ true

pub clean_without_fault : (text : List ℕ) (url : Parts) → first_fault (shared_faults text url) ≡ None → IsClean url
clean_without_fault text url none =
    let no_host = first_is_none (has_no_host url) _ _ none in
    let no_query = first_is_none (has_query url) _ _ no_host.1 in
    let no_fragment = first_is_none (has_fragment url) _ _ no_query.1 in
    let no_user = first_is_none (has_user url) _ _ no_fragment.1 in
    let no_escape = first_is_none (has_escape text url) _ _ no_user.1 in
    let path = or_parts (list_any (λ byte. byte == 0x25) text || not (list_all is_name_byte (host_of url))) (not (list_all is_plain_byte url.path))
    no_escape.0 in
    let host = or_parts (list_any (λ byte. byte == 0x25) text) (not (list_all is_name_byte (host_of url))) path.0 in
    record { host = no_host.0; named = not-false _ host.1; plain = not-false _ path.1 }

-- a file's URL without a fault names an endpoint
pub file_has_endpoint : (text : List ℕ) (url : Parts) → IsValid url → first_fault (shared_faults text url) ≡ None → first_fault (file_faults url) ≡ None
    → IsEndpointName (endpoint_text url)
file_has_endpoint text url valid shared file =
    let clean = clean_without_fault text url shared in
    let no_path = first_is_none (has_no_path url) _ _ file in
    let short = first_is_none (is_too_long url) _ _ no_path.1 in
    endpoint_is_named url valid clean.host clean.named short.0

-- so does an endpoint's
pub endpoint_has_name : (text : List ℕ) (url : Parts) → IsValid url → first_fault (shared_faults text url) ≡ None → first_fault (endpoint_faults url) ≡ None
    → IsEndpointName (endpoint_text url)
endpoint_has_name text url valid shared others =
    let clean = clean_without_fault text url shared in
    let short = first_is_none (is_too_long url) _ _ others in
    endpoint_is_named url valid clean.host clean.named short.0

-- a path is no longer than its URL
path_within : (a b c d e f g h i j path rest : List ℕ)
    → length path ≤ length (a ++ (b ++ (c ++ (d ++ (e ++ (f ++ (g ++ (h ++ (i ++ (j ++ (path ++ rest)))))))))))
path_within a b c d e f g h i j path rest = simp length-append (omega arith)

-- a file's URL without a fault names the path of a file
pub file_has_path : (text : List ℕ) (url : Parts) → first_fault (shared_faults text url) ≡ None → first_fault (file_faults url) ≡ None
    → IsPathKey (path_text url)
file_has_path text url shared file =
    let clean = clean_without_fault text url shared in
    let no_path = first_is_none (has_no_path url) _ _ file in
    let short = first_is_none (is_too_long url) _ _ no_path.1 in
    let free = first_is_none (has_reserved_path url) _ _ short.1 in
    let within : length url.path ≤ length (serialize url) = path_within url.scheme _ url.username _ url.password _ (host_of url)
    (when (is_some url.port) (codes ":")) (unwrap_or (option_map decimal url.port) []) (when (needs_guard url) (codes "/.")) url.path
    (when (is_some url.query) (codes "?") ++ (unwrap_or url.query [] ++ (when (is_some url.fragment) (codes "#") ++ (unwrap_or url.fragment [] ++ [])))) in
    path_is_key url.path clean.plain (omega (arith, within, ltb-false MAX_NAME_BYTES (length (serialize url)) short.0)) no_path.0 free.0
