-- What a URL without a fault names as its endpoint is the name of one.
use Rattle.std.proofs.Common.{◌≡◌, ℕ, ◌+◌, ◌%◌, ◌^◌, ◌<◌, ◌≤◌, true, false, List, [], ◌∷◌, ◌++◌, length, Option, Some, None, refl, ap, sym, subst, ◌∙◌, append_assoc, length-append, arith, tests}
use Rattle.std.specs.Prelude.{codes, decimal, not, unwrap_or, option_map, is_some, if◌then◌else◌}
use Rattle.std.specs.List.{list_all}
use Rattle.std.proofs.lemmas.Bool.{and_from, not-false, not-true, ltb-false, cond-true, true≢false}
use Rattle.std.proofs.lemmas.Fmt.{decimal_by_steps}
use Rattle.std.proofs.lemmas.List.Folds.{list_all-append}
use Rattle.url.specs.declared.host.Host.{Host}
use Rattle.url.specs.declared.host.Host.TheVariants.{Domain, Ipv4, Ipv6}
use Rattle.url.specs.Host.{host_text, is_empty_host}
use Rattle.url.specs.Input.{when, is_empty}
use Rattle.url.specs.Parts.{Parts, IsValid, IsPortOf, has_host, has_authority, has_credentials, host_or_empty, serialize}
use Rattle.fts_tables.specs.declared.limits.TheConstants.{MAX_NAME_BYTES}
use Rattle.fts_tables.specs.Names.{is_name_byte, is_host, IsEndpointName}
use Rattle.fts_joburl.specs.Urls.{host_of, port_text, endpoint_text, has_no_host, is_too_long}
use Rattle.fts_joburl.proofs.SchemeNames.{named_scheme}

-- a host that is not empty has a text that is not
some_host : (host : Host (List ℕ)) → not (is_empty_host host) ≡ true → 0 < length (host_text host)
some_host (Domain domain) some = grind arith
some_host (Ipv4 address) some = grind (arith, length-append)
some_host (Ipv6 address) some = grind (arith, length-append)

-- a digit is a byte of a name
digit_is_named : (digit : ℕ) → digit < 10 → is_name_byte (48 + digit) ≡ true
digit_is_named digit below = grind (arith, tests)

-- so are all digits of a number
decimal_is_named : (number : ℕ) → number < 2 ^ 64 → list_all is_name_byte (decimal number) ≡ true
decimal_is_named = decimal_by_steps (λ n digits. list_all is_name_byte digits ≡ true)
    (λ n below. grind (arith, digit_is_named n below))
    (λ n digits many before.
    let last : n % 10 < 10 = omega arith in
    list_all-append is_name_byte digits ((48 + n % 10) ∷ []) ∙ grind (arith, before, digit_is_named (n % 10) last))

-- and those of a port, with its colon
port_is_named : (scheme : List ℕ) (port : Option ℕ) → IsPortOf scheme port → list_all is_name_byte (port_text port) ≡ true
port_is_named scheme None valid = refl
port_is_named scheme (Some port) valid = decimal_is_named port (omega (arith, valid.0))

-- bytes of a name that are not none are a host
named_host : (bytes : List ℕ) → 0 < length bytes → list_all is_name_byte bytes ≡ true → is_host bytes ≡ true
named_host [] some named = absurd (omega arith)
named_host (byte ∷ bytes) some named = named

-- the parts of a name, each before all that follows
pub name_by_parts : (url : Parts) → endpoint_text url ≡ url.scheme ++ (codes "://" ++ (host_of url ++ port_text url.port))
name_by_parts url =
    append_assoc (url.scheme ++ codes "://") (host_of url) (port_text url.port) ∙ append_assoc url.scheme (codes "://") (host_of url ++ port_text url.port)

-- a port with its colon is two pieces of the URL
port_pieces : (port : Option ℕ) → port_text port ≡ when (is_some port) (codes ":") ++ unwrap_or (option_map decimal port) []
port_pieces None = refl
port_pieces (Some port) = refl

-- some pieces are no longer than all
some_pieces : (a b c d e f g h i rest : List ℕ)
    → length (a ++ (b ++ (g ++ (h ++ i)))) ≤ length (a ++ (b ++ (c ++ (d ++ (e ++ (f ++ (g ++ (h ++ (i ++ rest)))))))))
some_pieces a b c d e f g h i rest = simp length-append (omega arith)

-- a URL with a host has an authority
host_has_authority : (host : Option (Host (List ℕ))) → is_empty_host (unwrap_or host (Domain [])) ≡ false → is_some host ≡ true
host_has_authority None some = absurd (true≢false some)
host_has_authority (Some host) some = refl

-- the name is no longer than the URL
endpoint_within : (url : Parts) → has_host url ≡ true → length (endpoint_text url) ≤ length (serialize url)
endpoint_within url host =
    let authority : (if has_authority url then codes "://" else codes ":") ≡ codes "://" = cond-true _ _ _ (host_has_authority url.host (not-true _ host)) in
    let within = some_pieces url.scheme (if has_authority url then codes "://" else codes ":") url.username (when (not (is_empty url.password)) (codes ":"))
    url.password (when (has_credentials url) (codes "@")) (host_of url) (when (is_some url.port) (codes ":"))
    (unwrap_or (option_map decimal url.port) []) _ in
    let same : url.scheme ++
    ((if has_authority url then codes "://" else codes ":") ++
    (host_of url ++ (when (is_some url.port) (codes ":") ++ unwrap_or (option_map decimal url.port) []))) ≡ endpoint_text url =
    ap (λ slashes. url.scheme ++ (slashes ++ (host_of url ++ (when (is_some url.port) (codes ":") ++ unwrap_or (option_map decimal url.port) [])))) authority
    ∙ ap (λ port. url.scheme ++ (codes "://" ++ (host_of url ++ port))) (sym (port_pieces url.port)) ∙ sym (name_by_parts url) in
    subst (λ name. length name ≤ length (serialize url)) same within

-- the name is one
pub endpoint_is_named : (url : Parts) → IsValid url → has_no_host url ≡ false → list_all is_name_byte (host_of url) ≡ true → is_too_long url ≡ false
    → IsEndpointName (endpoint_text url)
endpoint_is_named url valid no_host named short =
    let host : has_host url ≡ true = not-false (has_host url) no_host in
    let behind = host_of url ++ port_text url.port in
    let shape : endpoint_text url ≡ url.scheme ++ (codes "://" ++ behind) = name_by_parts url in
    let all_named : list_all is_name_byte behind ≡ true = list_all-append is_name_byte (host_of url) (port_text url.port)
    ∙ and_from _ _ named (port_is_named url.scheme url.port valid.head.port) in
    let some : 0 < length behind = omega (arith, length-append (host_of url) (port_text url.port), some_host (host_or_empty url) host) in
    let fits : length (endpoint_text url) ≤ MAX_NAME_BYTES = omega (arith, endpoint_within url host, ltb-false MAX_NAME_BYTES (length (serialize url)) short) in
    subst IsEndpointName (sym shape)
    (named_scheme url.scheme behind valid.head.scheme (subst (λ name. length name ≤ MAX_NAME_BYTES) shape fits) (named_host behind some all_named))
