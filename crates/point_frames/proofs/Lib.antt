mod ClosedFrames
