-- The fields are appended one after another.
use Rattle.std.proofs.Common.{◌≡◌, ℕ, List, ◌++◌, ap, ◌∙◌, append_assoc, w32, w64}
use Rattle.std.specs.Int.{to_le_bytes}
use Rattle.load_maker.specs.File.{load_header}
use Rattle.load_maker.proofs.file.add_header.Goals as goal

regroup : (x0 b1 b2 b3 b4 b5 b6 b7 b8 : List ℕ) → x0 ++ b1 ++ b2 ++ b3 ++ b4 ++ b5 ++ b6 ++ b7 ++ b8 ≡ x0 ++ (b1 ++ b2 ++ b3 ++ b4 ++ b5 ++ b6 ++ b7 ++ b8)
regroup x0 b1 b2 b3 b4 b5 b6 b7 b8 = simp append_assoc

joined : (x0 x1 x2 x3 x4 x5 x6 x7 x8 b1 b2 b3 b4 b5 b6 b7 b8 : List ℕ)
    → x1 ≡ x0 ++ b1
    → x2 ≡ x1 ++ b2
    → x3 ≡ x2 ++ b3
    → x4 ≡ x3 ++ b4
    → x5 ≡ x4 ++ b5
    → x6 ≡ x5 ++ b6
    → x7 ≡ x6 ++ b7
    → x8 ≡ x7 ++ b8
    → x8 ≡ x0 ++ (b1 ++ b2 ++ b3 ++ b4 ++ b5 ++ b6 ++ b7 ++ b8)
joined x0 x1 x2 x3 x4 x5 x6 x7 x8 b1 b2 b3 b4 b5 b6 b7 b8 e1 e2 e3 e4 e5 e6 e7 e8 =
    e8 ∙ ap (λ x. x ++ b8) (e7 ∙ ap (λ x. x ++ b7) (e6 ∙ ap (λ x. x ++ b6) (e5 ∙ ap (λ x. x ++ b5) (e4 ∙ ap (λ x. x ++ b4) (e3 ∙ ap (λ x. x ++ b3) (e2 ∙ ap (λ x. x ++ b2) (e1)))))))
    ∙ regroup x0 b1 b2 b3 b4 b5 b6 b7 b8

pub returns : goal.returns
unfolding load_header
returns c =
    let e1 : c.extend_from_slice.new.self.items ≡ c.args.file.now.items ++ to_le_bytes w32 1 =
    c.in_ok-extend_from_slice.ensures.items ∙ ap (λ b. c.args.file.now.items ++ b) c.to_le_bytes.ensures in
    let e2 : c.extend_from_slice-2.new.self.items ≡ c.extend_from_slice.new.self.items ++ to_le_bytes w32 c.args.flags =
    c.in_ok-extend_from_slice-2.ensures.items ∙ ap (λ b. c.extend_from_slice.new.self.items ++ b) c.to_le_bytes-2.ensures in
    let e3 : c.extend_from_slice-3.new.self.items ≡ c.extend_from_slice-2.new.self.items ++ to_le_bytes w64 c.args.place =
    c.in_ok-extend_from_slice-3.ensures.items ∙ ap (λ b. c.extend_from_slice-2.new.self.items ++ b) c.to_le_bytes-3.ensures in
    let e4 : c.extend_from_slice-4.new.self.items ≡ c.extend_from_slice-3.new.self.items ++ to_le_bytes w64 c.args.address =
    c.in_ok-extend_from_slice-4.ensures.items ∙ ap (λ b. c.extend_from_slice-3.new.self.items ++ b) c.to_le_bytes-4.ensures in
    let e5 : c.extend_from_slice-5.new.self.items ≡ c.extend_from_slice-4.new.self.items ++ to_le_bytes w64 c.args.address =
    c.in_ok-extend_from_slice-5.ensures.items ∙ ap (λ b. c.extend_from_slice-4.new.self.items ++ b) c.to_le_bytes-5.ensures in
    let e6 : c.extend_from_slice-6.new.self.items ≡ c.extend_from_slice-5.new.self.items ++ to_le_bytes w64 c.args.filled =
    c.in_ok-extend_from_slice-6.ensures.items ∙ ap (λ b. c.extend_from_slice-5.new.self.items ++ b) c.to_le_bytes-6.ensures in
    let e7 : c.extend_from_slice-7.new.self.items ≡ c.extend_from_slice-6.new.self.items ++ to_le_bytes w64 c.args.size =
    c.in_ok-extend_from_slice-7.ensures.items ∙ ap (λ b. c.extend_from_slice-6.new.self.items ++ b) c.to_le_bytes-7.ensures in
    let e8 : c.extend_from_slice-8.new.self.items ≡ c.extend_from_slice-7.new.self.items ++ to_le_bytes w64 4096 =
    c.in_ok-extend_from_slice-8.ensures.items ∙ ap (λ b. c.extend_from_slice-7.new.self.items ++ b) c.to_le_bytes-8.ensures in
    record {
      ok = joined _ _ _ _ _ _ _ _ _ _ _ _ _ _ _ _ _ e1 e2 e3 e4 e5 e6 e7 e8;
    }
