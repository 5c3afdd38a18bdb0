-- The names of the system's numbers for a refusal (errno of POSIX, as Linux numbers it on x86-64).
use Rattle.std.specs.Prelude.{ℕ, ◌==◌, if◌then◌else◌, List, codes}

-- those of the numbers below 20
abbrev pub low_name : ℕ → List ℕ → List ℕ
low_name errno other =
    if errno == 1 then codes "EPERM"
    else (if errno == 2 then codes "ENOENT"
    else (if errno == 4 then codes "EINTR"
    else (if errno == 5 then codes "EIO"
    else (if errno == 6 then codes "ENXIO"
    else (if errno == 9 then codes "EBADF"
    else (if errno == 11 then codes "EAGAIN"
    else (if errno == 12 then codes "ENOMEM"
    else (if errno == 13 then codes "EACCES"
    else (if errno == 16 then codes "EBUSY"
    else (if errno == 17 then codes "EEXIST"
    else (if errno == 18 then codes "EXDEV"
    else (if errno == 19 then codes "ENODEV"
    else other))))))))))))

-- those of the numbers from 20 to 39
abbrev pub middle_name : ℕ → List ℕ → List ℕ
middle_name errno other =
    if errno == 20 then codes "ENOTDIR"
    else (if errno == 21 then codes "EISDIR"
    else (if errno == 22 then codes "EINVAL"
    else (if errno == 23 then codes "ENFILE"
    else (if errno == 24 then codes "EMFILE"
    else (if errno == 26 then codes "ETXTBSY"
    else (if errno == 27 then codes "EFBIG"
    else (if errno == 28 then codes "ENOSPC"
    else (if errno == 29 then codes "ESPIPE"
    else (if errno == 30 then codes "EROFS"
    else (if errno == 31 then codes "EMLINK"
    else (if errno == 36 then codes "ENAMETOOLONG"
    else (if errno == 38 then codes "ENOSYS"
    else (if errno == 39 then codes "ENOTEMPTY"
    else other)))))))))))))

-- those of the numbers from 40 on
abbrev pub high_name : ℕ → List ℕ → List ℕ
high_name errno other =
    if errno == 40 then codes "ELOOP"
    else (if errno == 75 then codes "EOVERFLOW"
    else (if errno == 95 then codes "EOPNOTSUPP"
    else (if errno == 110 then codes "ETIMEDOUT"
    else (if errno == 116 then codes "ESTALE"
    else (if errno == 121 then codes "EREMOTEIO"
    else (if errno == 122 then codes "EDQUOT"
    else other))))))

-- the name of a number, and E? of one that isn't listed
unfoldable pub errno_name : ℕ → List ℕ
errno_name errno = low_name errno (middle_name errno (high_name errno (codes "E?")))
