use Rattle.cj_stream.proofs.row_laws.ends_compute.Goals as goal

pub returns : goal.returns
returns c = record { unhindered = (tt, tt, tt, tt, λ h. h, λ h. h); unread = (tt, tt, tt, tt, λ h. h, λ h. h) }
