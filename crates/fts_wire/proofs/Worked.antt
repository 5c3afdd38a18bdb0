-- Worked examples of what stands first in bytes, computed.
use Rattle.std.proofs.Common.{◌≡◌, true, false, [], Some, None, refl}
use Rattle.std.specs.Prelude.{codes}
use Rattle.std.specs.Str.{is_utf8, chars}
use Rattle.httparse.proofs.OnLiterals.{httparse_on_literals}
use Rattle.fts_wire.specs.Requests.{next_of, Closed, EndsInside, Refuses, Asks}
use Rattle.fts_wire.specs.declared.fault.WireFault.TheVariants.{BadHead, BadLength, Chunked, BodyTooLarge}

-- a request behind an empty line, its query, and the bytes behind it
request_and_more : next_of (codes "\r\nPOST /jobs?a=1 HTTP/1.1\r\ncontent-LENGTH:\t2 \r\n\n{}POST")
    ≡ Asks (record { method = codes "POST"; path = codes "/jobs"; query = Some (codes "a=1"); body = codes "{}"; close = false }) (codes "POST")
unfolding httparse_on_literals is_utf8 chars lib.Utf8.encode
request_and_more = refl

-- a word in capitals closes
close_in_capitals : next_of (codes "GET / HTTP/1.1\nConnection: Close\n\n")
    ≡ Asks (record { method = codes "GET"; path = codes "/"; query = None; body = []; close = true }) []
unfolding httparse_on_literals is_utf8 chars lib.Utf8.encode
close_in_capitals = refl

-- and so does version 1.0
old_version : next_of (codes "GET / HTTP/1.0\r\n\r\n") ≡ Asks (record { method = codes "GET"; path = codes "/"; query = None; body = []; close = true }) []
unfolding httparse_on_literals is_utf8 chars lib.Utf8.encode
old_version = refl

-- CR and LF alone are a clean end
clean_end : next_of (codes "\r\n\n\r") ≡ Closed
clean_end = refl

-- bytes without an empty line
cut_head : next_of (codes "GET / HTTP/1.1\r\n\r") ≡ EndsInside
cut_head = refl

-- a body that lacks a byte
cut_body : next_of (codes "POST / HTTP/1.1\r\nContent-Length: 3\r\n\r\n{}") ≡ EndsInside
unfolding httparse_on_literals is_utf8 chars lib.Utf8.encode
cut_body = refl

-- white space before a colon
bad_name : next_of (codes "GET / HTTP/1.1\r\nHost : a\r\n\r\n") ≡ Refuses BadHead
unfolding httparse_on_literals is_utf8 chars lib.Utf8.encode
bad_name = refl

-- a value that goes on in the next line
folded : next_of (codes "GET / HTTP/1.1\r\nA: b\r\n c\r\n\r\n") ≡ Refuses BadHead
unfolding httparse_on_literals is_utf8 chars lib.Utf8.encode
folded = refl

-- a coding goes before a bad length
coding_first : next_of (codes "POST / HTTP/1.1\r\nContent-Length: x\r\nTransfer-Encoding: chunked\r\n\r\n") ≡ Refuses Chunked
unfolding httparse_on_literals is_utf8 chars lib.Utf8.encode
coding_first = refl

-- two lengths of one value
two_lengths : next_of (codes "POST / HTTP/1.1\r\nContent-Length: 1\r\nContent-Length: 1\r\n\r\nx") ≡ Refuses BadLength
unfolding httparse_on_literals is_utf8 chars lib.Utf8.encode
two_lengths = refl

-- 20 digits
many_digits : next_of (codes "POST / HTTP/1.1\r\nContent-Length: 00000000000000000001\r\n\r\nx") ≡ Refuses BadLength
unfolding httparse_on_literals is_utf8 chars lib.Utf8.encode
many_digits = refl

-- a length above the limit, by one
too_great : next_of (codes "POST / HTTP/1.1\r\nContent-Length: 1048577\r\n\r\n") ≡ Refuses BodyTooLarge
unfolding httparse_on_literals is_utf8 chars lib.Utf8.encode
too_great = refl
