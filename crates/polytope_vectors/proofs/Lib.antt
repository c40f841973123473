mod FrontPoints
