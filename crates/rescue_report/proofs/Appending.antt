-- Pieces of text that are appended one after another.
use Rattle.std.proofs.Common.{◌≡◌, ℕ, List, ◌++◌, ap, ◌∙◌, append_assoc}

-- the line of a rescued call: its words a, b, c, f, i, j, k, l and n with depth, hart, entry, name,
-- pc, steps, records and code between them
pub rescue_words : (t0 t1 t2 t3 t4 t5 t6 t7 a depth b hart c entry f name i pc j steps k records l code n : List ℕ)
    → t1 ≡ t0 ++ (a ++ (depth ++ (b ++ (hart ++ c))))
    → t2 ≡ t1 ++ entry
    → t3 ≡ t2 ++ (f ++ (name ++ i))
    → t4 ≡ t3 ++ pc
    → t5 ≡ t4 ++ (j ++ (steps ++ (k ++ (records ++ l))))
    → t6 ≡ t5 ++ code
    → t7 ≡ t6 ++ n
    → t7 ≡ t0 ++ (a ++ (depth ++ (b ++ (hart ++ (c ++ (entry ++ (f ++ (name ++ (i ++ (pc ++ (j ++ (steps ++ (k ++ (records ++ (l ++ (code ++ n))))))))))))))))
rescue_words t0 t1 t2 t3 t4 t5 t6 t7 a depth b hart c entry f name i pc j steps k records l code n e1 e2 e3 e4 e5 e6 e7 =
    e7
    ∙ ap (λ t. t ++ n) (e6
    ∙ ap (λ t. t ++ code) (e5
    ∙ ap (λ t. t ++ (j ++ (steps ++ (k ++ (records ++ l))))) (e4
    ∙ ap (λ t. t ++ pc) (e3
    ∙ ap (λ t. t ++ (f ++ (name ++ i))) (e2
    ∙ ap (λ t. t ++ entry) e1)))))
    ∙ simp append_assoc
