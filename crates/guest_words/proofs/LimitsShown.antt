-- The numbers of the limits, as docs/MANUAL.md has them, and of the calls, their flags and error
-- numbers, as Linux gives them for 64-bit RISC-V (asm-generic/unistd.h, errno-base.h, sched.h).
use Rattle.std.proofs.Common.{◌≡◌, refl}
use Rattle.std.specs.Prelude.{negsuc}
use Rattle.guest_words.specs.declared.limits.TheConstants.{PROGRAM_BYTES, POINTS_BYTES, PROGRAM_HEADERS, LOAD_PAGES, PAGE, POINTS, FRAMES, HARTS, RESCUES, BUDGET, TRANSFER, RECORD_BYTES, FIRST_ADDRESS, LOADS_END, STACK_FROM, STACK_END, STACK_POINTER, HEAP_BYTES, MAP_FROM, MAP_END, MAP_PAGES}
use Rattle.guest_words.specs.declared.linux.TheConstants.{CLOSE, READ, WRITE, EXIT, EXIT_GROUP, FUTEX, SCHED_YIELD, GETTID, BRK, MUNMAP, CLONE, MMAP, EIO, EBADF, EAGAIN, ENOMEM, EFAULT, EINVAL, ENOSYS, FUTEX_WAIT, FUTEX_WAKE, FUTEX_PRIVATE, CLONE_VM, CLONE_FS, CLONE_FILES, CLONE_SIGHAND, CLONE_THREAD, CLONE_SYSVSEM, CLONE_SETTLS, CLONE_PARENT_SETTID, CLONE_CHILD_CLEARTID, CLONE_KNOWN, PROT_READ, PROT_WRITE, MAP_OWN, MAP_HINTS}

-- what is read of a program and of a rescue file, in bytes
pub program-bytes-is : PROGRAM_BYTES ≡ 16777216
program-bytes-is = refl

pub points-bytes-is : POINTS_BYTES ≡ 1048576
points-bytes-is = refl

-- the parts of a program
pub program-headers-is : PROGRAM_HEADERS ≡ 64
program-headers-is = refl

pub load-pages-is : LOAD_PAGES ≡ 16384
load-pages-is = refl

pub page-is : PAGE ≡ 4096
page-is = refl

-- points, the calls of points open at once, harts, rescues of a limited point
pub points-is : POINTS ≡ 256
points-is = refl

pub frames-is : FRAMES ≡ 16
frames-is = refl

pub harts-is : HARTS ≡ 64
harts-is = refl

pub rescues-is : RESCUES ≡ 1000000
rescues-is = refl

-- a run's steps, one transfer, the bytes of all records
pub budget-is : BUDGET ≡ 20000000
budget-is = refl

pub transfer-is : TRANSFER ≡ 65536
transfer-is = refl

pub record-bytes-is : RECORD_BYTES ≡ 268435456
record-bytes-is = refl

-- where loads, the stack, the heap and mapped pages lie
pub first-address-is : FIRST_ADDRESS ≡ 0x1000
first-address-is = refl

pub loads-end-is : LOADS_END ≡ 0x3f00000000
loads-end-is = refl

pub stack-from-is : STACK_FROM ≡ 0x3ffff00000
stack-from-is = refl

pub stack-end-is : STACK_END ≡ 0x4000000000
stack-end-is = refl

pub stack-pointer-is : STACK_POINTER ≡ 0x3fffffffc0
stack-pointer-is = refl

pub heap-bytes-is : HEAP_BYTES ≡ 67108864
heap-bytes-is = refl

pub map-from-is : MAP_FROM ≡ 0x3f80000000
map-from-is = refl

pub map-end-is : MAP_END ≡ 0x3fc0000000
map-end-is = refl

pub map-pages-is : MAP_PAGES ≡ 16384
map-pages-is = refl

-- the numbers of the calls
pub close-is : CLOSE ≡ 57
close-is = refl

pub read-is : READ ≡ 63
read-is = refl

pub write-is : WRITE ≡ 64
write-is = refl

pub exit-is : EXIT ≡ 93
exit-is = refl

pub exit_group-is : EXIT_GROUP ≡ 94
exit_group-is = refl

pub futex-is : FUTEX ≡ 98
futex-is = refl

pub sched_yield-is : SCHED_YIELD ≡ 124
sched_yield-is = refl

pub gettid-is : GETTID ≡ 178
gettid-is = refl

pub brk-is : BRK ≡ 214
brk-is = refl

pub munmap-is : MUNMAP ≡ 215
munmap-is = refl

pub clone-is : CLONE ≡ 220
clone-is = refl

pub mmap-is : MMAP ≡ 222
mmap-is = refl

-- error numbers: `negsuc n` is -(n + 1)
pub eio-is : EIO ≡ negsuc 4
eio-is = refl

pub ebadf-is : EBADF ≡ negsuc 8
ebadf-is = refl

pub eagain-is : EAGAIN ≡ negsuc 10
eagain-is = refl

pub enomem-is : ENOMEM ≡ negsuc 11
enomem-is = refl

pub efault-is : EFAULT ≡ negsuc 13
efault-is = refl

pub einval-is : EINVAL ≡ negsuc 21
einval-is = refl

pub enosys-is : ENOSYS ≡ negsuc 37
enosys-is = refl

-- operations of futex
pub futex_wait-is : FUTEX_WAIT ≡ 0
futex_wait-is = refl

pub futex_wake-is : FUTEX_WAKE ≡ 1
futex_wake-is = refl

pub futex_private-is : FUTEX_PRIVATE ≡ 128
futex_private-is = refl

-- flags of clone
pub clone_vm-is : CLONE_VM ≡ 0x100
clone_vm-is = refl

pub clone_fs-is : CLONE_FS ≡ 0x200
clone_fs-is = refl

pub clone_files-is : CLONE_FILES ≡ 0x400
clone_files-is = refl

pub clone_sighand-is : CLONE_SIGHAND ≡ 0x800
clone_sighand-is = refl

pub clone_thread-is : CLONE_THREAD ≡ 0x10000
clone_thread-is = refl

pub clone_sysvsem-is : CLONE_SYSVSEM ≡ 0x40000
clone_sysvsem-is = refl

pub clone_settls-is : CLONE_SETTLS ≡ 0x80000
clone_settls-is = refl

pub clone_parent_settid-is : CLONE_PARENT_SETTID ≡ 0x100000
clone_parent_settid-is = refl

pub clone_child_cleartid-is : CLONE_CHILD_CLEARTID ≡ 0x200000
clone_child_cleartid-is = refl

pub clone_known-is : CLONE_KNOWN ≡ 0x3d0f00
clone_known-is = refl

-- protections and flags of mmap
pub prot_read-is : PROT_READ ≡ 1
prot_read-is = refl

pub prot_write-is : PROT_WRITE ≡ 2
prot_write-is = refl

pub map_own-is : MAP_OWN ≡ 0x22
map_own-is = refl

pub map_hints-is : MAP_HINTS ≡ 0x24000
map_hints-is = refl
