mod DepthLaws
